-- A list of moves applied to a cube of letters or of ids.
use Rattle.std.specs.Prelude.{ℕ, ◌≡◌, not, List, ◌∷◌, Result, eqb, length, replicate}
use Rattle.ground.specs.declared.refusals.Refusal.{Refusal}
use Rattle.ground.specs.Refusals.{Row, ◌when◌, lowest}
use Rattle.generic_cube.specs.Sizes.{sized, stickers}
use Rattle.generic_cube.specs.Answers.{done, unless}
use Rattle.generic_cube.specs.Code.{list_rows}
use Rattle.geometric_moves.specs.Turn.{run}

-- 1: the size; 2: the cube or the work area isn't 6n² long; 3, 5: the list, checked whole
abbrev pub apply_rows : ℕ → ℕ → ℕ → List ℕ → List Row
apply_rows n cube work moves =
    1 when not (sized n) ∷ 2 when not (eqb cube (stickers n)) ∷ 2 when not (eqb work (stickers n)) ∷ list_rows n moves

unfoldable pub apply_refusal : ℕ → ℕ → ℕ → List ℕ → ℕ
apply_refusal n cube work moves = lowest (apply_rows n cube work moves)

-- every move in order; on success, for an empty list too, the work area is zero; a refusal changes nothing
pub record ApplyMovesResult (n : ℕ) (cube work moves cube' work' : List ℕ) (r : Result (Unit {0}) Refusal) : Type 0 where
  pub answered : r ≡ done (apply_refusal n (length cube) (length work) moves)
  pub cube_is : cube' ≡ unless (apply_refusal n (length cube) (length work) moves) (run n moves cube) cube
  pub work_is : work' ≡ unless (apply_refusal n (length cube) (length work) moves) (replicate (stickers n) 0) work
