-- `cycle_line`: the first q places of the line are done.
use Rattle.facelet_lanes.proofs.LaneLaws.{LineDone}
use Rattle.facelet_moves.proofs.cycle_line.Given as goal

abbrev pub invariant-loop-q : goal.invariant-loop-q
invariant-loop-q g l = let f = g.T.Facelet in LineDone l.t l.p l.count l.ring (f.numbers l.initial.cube) (f.numbers l.cube) l.q
