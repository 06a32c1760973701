-- `turn_ring`: the first p of the lines are done.
use Rattle.facelet_lanes.proofs.LaneLaws.{RingDone}
use Rattle.facelet_moves.proofs.turn_ring.Given as goal

abbrev pub invariant-loop-p : goal.invariant-loop-p
invariant-loop-p g l =
    let f = g.T.Facelet in RingDone l.fn.n l.t l.fn.ring l.count l.first l.lines (f.numbers l.initial.cube) (f.numbers l.cube) l.p
