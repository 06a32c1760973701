-- Where the search answers as the crate does, which bars neighbours of one kind whatever their widths. The proofs stand in
-- proofs/CrateRuleLaws.antt.
use Rattle.std.specs.Prelude.{ℕ, ◌/◌, ◌%◌, ◌≤◌, ◌≡◌, ◌↔◌, Bool, true, eqb, length}
use mathlib.Core.List.{List, [], ◌∷◌, ◌++◌, Memᴰ}
use Rattle.generic_cube.specs.Sizes.{stickers}
use Rattle.generic_cube.specs.Code.{move_of, is_wide, list_refusal}
use Rattle.geometric_moves.specs.Turn as Turn
use Rattle.facelet_cube.specs.Cube.{solved_cube}
use Rattle.search_theory.specs.Search.{Reply, none, found, Task, under_rule, ida, Allowed}
use Rattle.search_theory.specs.CubeSearch.{CubeSearch, task_of, AdmissibleTable}
use Rattle.ida_star.specs.IdaStar.{reply}
use Rattle.theorems.specs.Boundary.{SearchCall, reply_read}

-- the crate's rule: no two neighbours have the same kind
unfoldable pub same_kind : ℕ → ℕ → Bool
same_kind c d = eqb (move_of c).kind (move_of d).kind

-- the same search under that rule, and its answer: the crate's `dfs` under rising limits
abbrev pub crate_task : CubeSearch → Task
crate_task q = under_rule same_kind (task_of q)

abbrev pub crate_reply : CubeSearch → Reply
crate_reply q = ida (crate_task q) q.limit q.cube

-- each wide kind among the candidates has one width
abbrev pub OneWidth : List ℕ → Type 0
OneWidth cs =
    (c d : ℕ) → Memᴰ c cs → Memᴰ d cs → is_wide (move_of c).kind ≡ true → (move_of c).kind ≡ (move_of d).kind
    → (move_of c).width ≡ (move_of d).width

-- every list that the crate allows is allowed
abbrev pub NoneLost : Type 0
NoneLost = (q : CubeSearch) (p : List ℕ) → Allowed (crate_task q) p → Allowed (task_of q) p

-- a reply that is a list no longer than p
abbrev pub NoLonger : Reply → List ℕ → Type 0
NoLonger none p = ⊥
NoLonger (found r) p = length r ≤ length p

-- so with an admissible table no answer is worse than the crate's: where it finds a list, one no longer is found
abbrev pub NeverWorse : Type 0
NeverWorse = (q : CubeSearch) (p : List ℕ) → length q.cube ≡ stickers q.n → AdmissibleTable q → crate_reply q ≡ found p → NoLonger (reply q) p

-- the two rules allow the same lists exactly where each wide kind among the candidates has one width
abbrev pub SameLists : Type 0
SameLists =
    (q : CubeSearch) → list_refusal q.n q.candidates ≡ 0
    → OneWidth q.candidates ↔ ((p : List ℕ) → Allowed (crate_task q) p ↔ Allowed (task_of q) p)

-- there a call of `cubesim_ida_star` that is not refused tells the crate's answer, for any table at all
abbrev pub SameAnswer : Type 0
SameAnswer =
    (q : CubeSearch) (work work' out out' : List ℕ) (r : ℕ) → SearchCall q work work' out out' r → r % 256 ≡ 0 → OneWidth q.candidates
    → reply_read (r / 256) out' ≡ crate_reply q

-- ---- elsewhere it need not

-- a search for at most two moves from the solved cube after a scramble, over the table of the solved cube alone
abbrev pub two_moves : ℕ → List ℕ → List ℕ → CubeSearch
two_moves n scramble candidates =
    record {
      n = n;
      cube = Turn.run n scramble (solved_cube n);
      table = solved_cube n ++ (0 ∷ []);
      depth = 0;
      candidates = candidates;
      limit = 2;
    }

-- it finds a list, and the crate finds none
pub record FoundHere (q : CubeSearch) (p : List ℕ) : Type 0 where
  pub here : reply q ≡ found p
  pub there : crate_reply q ≡ none

-- the smallest input: size 2, Uw of width 1 (89) and of width 2 (153), the cube after both were turned back. And size 6 after 3Uw' 2Uw'
-- (219, 155), with the widths 2 and 3 of Uw in all turns: 2Uw 3Uw
pub record TwoWidths : Type 0 where
  pub smallest : FoundHere (two_moves 2 (91 ∷ 155 ∷ []) (89 ∷ 153 ∷ [])) (89 ∷ 153 ∷ [])
  pub size_6 : FoundHere (two_moves 6 (219 ∷ 155 ∷ []) (153 ∷ 154 ∷ 155 ∷ 217 ∷ 218 ∷ 219 ∷ [])) (153 ∷ 217 ∷ [])
