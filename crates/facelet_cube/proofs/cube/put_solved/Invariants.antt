-- `put_solved`: the first j places are the solved cube's.
use Rattle.ground.proofs.FillLaws.{Filling}
use Rattle.facelet_cube.proofs.cube.put_solved.Given as goal

abbrev pub invariant-loop-j : goal.invariant-loop-j
invariant-loop-j g l = let f = g.T.Facelet in Filling (f.shown l.n) (f.numbers l.initial.cube) (f.numbers l.cube) l.j
