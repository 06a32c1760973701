-- The search of a cube: what `ida_star` refuses, what it answers, and what it leaves in what it was lent.
use Rattle.std.specs.Prelude.{ℕ, suc, ◌+◌, ◌*◌, ◌≡◌, not, List, [], ◌∷◌, ◌++◌, eqb, ltb, length, drop, replicate, Option, Some, None, Result, Ok, Err}
use Rattle.ground.specs.Lists.{over}
use Rattle.ground.specs.Refusals.{Row, ◌when◌, lowest}
use Rattle.generic_cube.specs.Sizes.{small, beyond, stickers}
use Rattle.ground.specs.declared.refusals.Refusal.{Refusal}
use Rattle.generic_cube.specs.Answers.{answer, unless}
use Rattle.generic_cube.specs.Code.{list_rows}
use Rattle.table.specs.Table.{well_formed}
use Rattle.search_theory.specs.Search.{Reply, none, found, ida}
use Rattle.search_theory.specs.CubeSearch.{CubeSearch, task_of}

-- for any table at all the answer is the source's `dfs` under rising limits
abbrev pub reply : CubeSearch → Reply
reply q = ida (task_of q) q.limit q.cube

-- work area: (limit + 1)·6n² bytes
abbrev pub levels : ℕ → ℕ → ℕ
levels n limit = (limit + 1) * stickers n

-- 1: the size; 2: the cube isn't 6n² long; 3, 5: the list; 6: the output is too short; 7: too many candidates, or limit or depth too high;
-- 8: the table isn't whole entries with strictly rising keys; 9: the work area is too short. The work area and the output
-- by their lengths.
abbrev pub search_rows : CubeSearch → ℕ → ℕ → List Row
search_rows q work out =
    1 when not (small q.n) ∷ 2 when not (eqb (length q.cube) (stickers q.n)) ∷
    (list_rows q.n q.candidates ++ (6 when ltb out q.limit ∷ 7 when beyond (length q.candidates) q.limit q.depth ∷
    8 when not (well_formed (stickers q.n) q.table) ∷ 9 when ltb work (levels q.n q.limit) ∷ []))

unfoldable pub search_refusal : CubeSearch → ℕ → ℕ → ℕ
search_refusal q work out = lowest (search_rows q work out)

-- the answer of a search that is not refused: how many moves the list has, if there is one
abbrev pub outcome_of : Reply → Option ℕ
outcome_of none = None
outcome_of (found p) = Some (length p)

-- a found list fills the first slots, the others stay; none changes no output
abbrev pub output_of : Reply → List ℕ → List ℕ
output_of none out = out
output_of (found p) out = over p out

-- the answer, with that refusal or that reply; the first bytes of the work area are zero afterwards, the rest unchanged; a refusal
-- changes nothing
pub record Searched (number : ℕ) (reply : Reply) (need : ℕ) (work work' out out' : List ℕ) (r : Result (Option ℕ) Refusal) : Type 0 where
  pub answered : r ≡ answer number (outcome_of reply)
  pub zeroed : work' ≡ unless number (replicate need 0 ++ drop need work) work
  pub written : out' ≡ unless number (output_of reply out) out

-- what `ida_star` answers, and leaves in its work area and its output
abbrev pub IdaStarResult : CubeSearch → List ℕ → List ℕ → List ℕ → List ℕ → Result (Option ℕ) Refusal → Type 0
IdaStarResult q work work' out out' r =
    Searched (search_refusal q (length work) (length out)) (reply q) (levels q.n q.limit) work work' out out' r

-- its value: 0 for none, one more than the count of moves for a list, 0 where something is refused
abbrev pub outcome_value : Result (Option ℕ) Refusal → ℕ
outcome_value (Ok (Some k)) = suc k
outcome_value (Ok None) = 0
outcome_value (Err r) = 0
