-- The solved cube with its letters and ids, the solved test, and masks.
use Rattle.std.specs.Prelude.{ℕ, ◌*◌, ◌/◌, Bool, true, false, not, Result, Ok, Err, List, [], ◌∷◌, leb, eqb, length, get_or, take, drop}
use Rattle.ground.specs.Choice.{pick, any, all}
use Rattle.ground.specs.Lists.{tabulate}
use Rattle.ground.specs.declared.refusals.Refusal.{Refusal}
use Rattle.ground.specs.Refusals.{Row, ◌when◌, lowest}
use Rattle.generic_cube.specs.Sizes.{sized, stickers, letters, letter_x}
use Rattle.generic_cube.specs.Answers.{answer, answer_no, DoneWith}

-- 1: the size; 2: the slice isn't 6n² long
abbrev pub cube_rows : ℕ → ℕ → List Row
cube_rows n long = 1 when not (sized n) ∷ 2 when not (eqb long (stickers n)) ∷ []

unfoldable pub cube_refusal : ℕ → ℕ → ℕ
cube_refusal n long = lowest (cube_rows n long)

-- each sticker shows the letter of its face
unfoldable pub solved_cube : ℕ → List ℕ
solved_cube n = tabulate (stickers n) (λ j. get_or letters (j / n / n) 0)

-- and has its index as its id: 0, 1, 2 and so on
unfoldable pub solved_ids : ℕ → List ℕ
solved_ids n = tabulate (stickers n) (λ j. j)

abbrev pub SolvedResult : ℕ → List ℕ → List ℕ → Result (Unit {0}) Refusal → Type 0
SolvedResult n cube cube' r = DoneWith (cube_refusal n (length cube)) (solved_cube n) cube cube' r

abbrev pub SolvedIdsResult : ℕ → List ℕ → List ℕ → Result (Unit {0}) Refusal → Type 0
SolvedIdsResult n ids ids' r = DoneWith (cube_refusal n (length ids)) (solved_ids n) ids ids' r

-- solved: each face shows one byte
unfoldable pub one_byte : List ℕ → Bool
one_byte bs = all (λ b. eqb b (get_or bs 0 0)) bs

-- the stickers of face k, in the order of the faces
abbrev pub face_stickers : ℕ → ℕ → List ℕ → List ℕ
face_stickers n k cube = take (n * n) (drop (k * (n * n)) cube)

unfoldable pub is_solved : ℕ → List ℕ → Bool
is_solved n cube = all (λ k. one_byte (face_stickers n k cube)) (0 ∷ 1 ∷ 2 ∷ 3 ∷ 4 ∷ 5 ∷ [])

unfoldable pub verdict : ℕ → List ℕ → Result Bool Refusal
verdict n cube = answer (cube_refusal n (length cube)) (is_solved n cube)

-- the rules' number and value of each case: 1 solved, 0 not
abbrev pub verdict_no : Result Bool Refusal → ℕ
verdict_no r = answer_no r

abbrev pub verdict_value : Result Bool Refusal → ℕ
verdict_value (Ok true) = 1
verdict_value (Ok false) = 0
verdict_value (Err r) = 0

-- whether an id is 6n² or more
abbrev pub large_id : ℕ → List ℕ → Bool
large_id count ids = any (λ i. leb count i) ids

-- 1: the size; 2: the cube, the ids or the keep slice isn't 6n² long; 10: any id is 6n² or more
abbrev pub mask_rows : ℕ → ℕ → List ℕ → ℕ → List Row
mask_rows n cube ids keep =
    1 when not (sized n) ∷ 2 when not (eqb cube (stickers n)) ∷ 2 when not (eqb (length ids) (stickers n)) ∷
    2 when not (eqb keep (stickers n)) ∷ 10 when large_id (stickers n) ids ∷ []

unfoldable pub mask_refusal : ℕ → ℕ → List ℕ → ℕ → ℕ
mask_refusal n cube ids keep = lowest (mask_rows n cube ids keep)

-- where the keep byte at a sticker's id is 0 its letter becomes X, other bytes keep it
unfoldable pub masked : ℕ → List ℕ → List ℕ → List ℕ → List ℕ
masked n cube ids keep = tabulate (stickers n) (λ j. pick (eqb (get_or keep (get_or ids j 0) 0) 0) letter_x (get_or cube j 0))

abbrev pub MaskResult : ℕ → List ℕ → List ℕ → List ℕ → List ℕ → Result (Unit {0}) Refusal → Type 0
MaskResult n cube ids keep cube' r = DoneWith (mask_refusal n (length cube) ids (length keep)) (masked n cube ids keep) cube cube' r
