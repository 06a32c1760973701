-- `put_mask`: the first j places are masked, the others as they were.
use Rattle.ground.proofs.FillLaws.{Changing}
use Rattle.facelet_cube.proofs.CubeLaws.{mask_at}
use Rattle.facelet_cube.proofs.cube.put_mask.Given as goal

abbrev pub invariant-loop-j : goal.invariant-loop-j
invariant-loop-j l = Changing (mask_at l.initial.cube l.ids l.keep) l.initial.cube l.cube l.j
