-- `run_moves`: what is left of the list, run on the cube as it is, gives what the whole list gives.
use Rattle.facelet_cube.proofs.ApplyLaws.{Running}
use Rattle.facelet_moves.proofs.run_moves.Given as goal

abbrev pub invariant-loop-code : goal.invariant-loop-code
invariant-loop-code g l = let f = g.T.Facelet in Running l.n l.moves (f.numbers l.initial.cube) (f.numbers l.cube) l.code-index
