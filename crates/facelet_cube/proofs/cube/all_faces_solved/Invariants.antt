-- `all_faces_solved`: every face passed shows one byte.
use mathlib.Core.Path.{◌≡◌}
use mathlib.Core.List.{[], ◌∷◌}
use lib.ListN.{drop}
use Rattle.ground.specs.Choice.{all}
use Rattle.facelet_cube.specs.Cube.{face_stickers, one_byte, is_solved}
use Rattle.facelet_cube.proofs.cube.all_faces_solved.Given as goal

abbrev pub invariant-loop-k : goal.invariant-loop-k
invariant-loop-k l = is_solved l.n l.cube ≡ all (λ f. one_byte (face_stickers l.n f l.cube)) (drop l.k (0 ∷ 1 ∷ 2 ∷ 3 ∷ 4 ∷ 5 ∷ []))
