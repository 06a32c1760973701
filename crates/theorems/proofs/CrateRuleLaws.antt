-- The two neighbour rules, where they agree and where they part.
use Prim.Native.Nat.{ℕ, zero, suc, ◌<◌}
use mathlib.Core.Path.{◌≡◌, refl, sym, ap, subst, ◌∙◌}
use mathlib.Core.Logic.{◌↔◌}
use mathlib.Core.Bool.{true, false, true≢false}
use mathlib.Core.List.{List, [], ◌∷◌, Memᴰ}
use native.Mathlib.Omega.{arith}
use lib.Dec.{eqb}
use lib.ListN.{length, get_or}
use borrow.Author.Tests.{eqb-true, eq-eqb}
use Rattle.ground.specs.Lists.{tabulate}
use Rattle.ground.proofs.ChoiceLaws.{bool_cases}
use Rattle.ground.proofs.ListLaws.{member_place}
use Rattle.generic_cube.specs.Code.{move_of, is_wide, bad_code, list_refusal, joins}
use Rattle.generic_cube.proofs.CodeLaws.{joins_same, same_joins, code_width, list_code}
use Rattle.geometric_moves.specs.Turn.{same_face, whither, inverse_rot, turn_of, quarter_of, kind_face, layers_of, takes, target, source, moved, run}
use Rattle.geometric_moves.proofs.MovedLaws.{length_moved}
use Rattle.facelet_cube.specs.Cube.{solved_cube}
use Rattle.table.specs.Order.{order_of}
use Rattle.table.specs.Table.{first_entries, number_for, state_number}
use Rattle.search_theory.specs.Search.{Reply, none, found, or_else, first_of, bars, dfs, passes, Allowed, Solves, Admissible, Best}
use Rattle.search_theory.specs.CubeSearch.{CubeSearch, task_of, Cube, AdmissibleTable}
use Rattle.search_theory.proofs.RuleLaws.{rule_run, rule_passes}
use Rattle.admissible_theory.proofs.BestLaws.{best}
use Rattle.ida_star.specs.IdaStar.{reply}
use Rattle.ida_star.proofs.IdaStarLaws.{search_taken}
use Rattle.theorems.specs.CrateRule.{same_kind, crate_task, OneWidth, NoneLost, NoLonger, NeverWorse, SameLists, SameAnswer, TwoWidths}
use Rattle.theorems.proofs.SearchingLaws.{best_reply}
use Rattle.theorems.proofs.BoundaryLaws.{read_ran, search_told}

one_kind : (c d : ℕ) → (move_of c).kind ≡ (move_of d).kind → same_kind c d ≡ true
unfolding same_kind
one_kind c d e = eq-eqb _ _ e

-- moves that join have one kind
apart_joined : (c d : ℕ) → same_kind c d ≡ false → joins c d ≡ false
apart_joined c d e = bool_cases (joins c d) (λ t. absurd (true≢false (sym (one_kind c d (joins_same c d t).0) ∙ e))) (λ t. t)

pub none_lost : NoneLost
none_lost q p a = record { candidate = a.candidate; apart = λ i h. apart_joined _ _ (a.apart i h) }

-- what solves a cube by the crate's rule solves it here, so a table that is admissible here is so there
solved_here : (q : CubeSearch) {s p : List ℕ} → Solves (crate_task q) s p → Solves (task_of q) s p
solved_here q {s} {p} a =
    record { allowed = none_lost q p a.allowed; goal = ap (task_of q).number (sym (rule_run same_kind (task_of q) p s)) ∙ a.goal }

admissible_there : (q : CubeSearch) → AdmissibleTable q → Admissible (crate_task q) (Cube q.n)
admissible_there q low s c p a = low s c p (solved_here q a)

pub never_worse : NeverWorse
never_worse q p whole low e =
    go (reply q) (best_reply q whole low)
    (subst (Best (crate_task q) q.limit q.cube) e
    (best (crate_task q) (Cube q.n) (λ c m s h. length_moved q.n (move_of c) s) (admissible_there q low) q.limit q.cube whole))
  where
    go : (r : Reply) → Best (task_of q) q.limit q.cube r → Best (crate_task q) q.limit q.cube (found p) → NoLonger r p
    go none b f = b p (solved_here q f.solves) f.within
    go (found r) b f = b.shortest p (solved_here q f.solves)

-- on candidates of one width each the rules agree
module _ (n : ℕ) {cs : List ℕ} (e : list_refusal n cs ≡ 0) (one : OneWidth cs) where
  good : (c : ℕ) → Memᴰ c cs → bad_code (move_of c) ≡ false
  good c m = let p = member_place 0 m in subst (λ (x : ℕ). bad_code (move_of x) ≡ false) p.is (list_code n cs e p.at p.within)

  one_width : (c d : ℕ) → Memᴰ c cs → Memᴰ d cs → (move_of c).kind ≡ (move_of d).kind → (move_of c).width ≡ (move_of d).width
  one_width c d m l k =
      bool_cases (is_wide (move_of c).kind)
      (λ w. one c d m l w k)
      (λ w. code_width c (good c m) w ∙ sym (code_width d (good d l) (subst (λ (x : ℕ). is_wide x ≡ false) k w)))

  rules_agree : (c d : ℕ) → Memᴰ c cs → Memᴰ d cs → same_kind c d ≡ joins c d
  unfolding same_kind
  rules_agree c d m l =
      bool_cases (eqb (move_of c).kind (move_of d).kind)
      (λ t. let k = eqb-true _ _ t in t ∙ sym (same_joins c d k (one_width c d m l k)))
      (λ t. t ∙ sym (apart_joined c d t))

-- two candidates of a kind, as a list of two moves
pair : (q : CubeSearch) (c d : ℕ) → Memᴰ c q.candidates → Memᴰ d q.candidates → joins c d ≡ false → Allowed (task_of q) (c ∷ d ∷ [])
pair q c d m l e = record { candidate = member; apart = next }
  where
    member : (i : ℕ) → i < 2 → Memᴰ (get_or (c ∷ d ∷ []) i 0) q.candidates
    member zero h = m
    member (suc zero) h = l
    member (suc (suc i)) h = absurd (omega arith)

    next : (i : ℕ) → suc i < 2 → joins (get_or (c ∷ d ∷ []) i 0) (get_or (c ∷ d ∷ []) (suc i) 0) ≡ false
    next zero h = e
    next (suc i) h = absurd (omega arith)

pub same_lists : SameLists
same_lists q e = (λ one p. (none_lost q p, back one p), forth)
  where
    back : OneWidth q.candidates → (p : List ℕ) → Allowed (task_of q) p → Allowed (crate_task q) p
    back one p a =
        record {
          candidate = a.candidate;
          apart = λ i h. rules_agree q.n e one _ _ (a.candidate i (omega arith)) (a.candidate (suc i) h) ∙ a.apart i h;
        }

    forth : ((p : List ℕ) → Allowed (crate_task q) p ↔ Allowed (task_of q) p) → OneWidth q.candidates
    forth f c d m l w k =
        bool_cases (joins c d)
        (λ t. (joins_same c d t).1)
        (λ t. absurd (true≢false (sym (one_kind c d k) ∙ ((f (c ∷ d ∷ [])).1 (pair q c d m l t)).apart 0 (omega arith))))

pub same_answer : SameAnswer
same_answer q work work' out out' r c z one =
    let ran = (read_ran q work work' out out' c z).ran in
    let taken = (search_taken q (length ran.work) (length ran.out) ran.taken).given.listed in
    search_told q work work' out out' r c z ∙ sym (rule_passes (task_of q) same_kind (rules_agree q.n taken one) (suc q.limit) q.cube)

pub two_widths : TwoWidths
unfolding solved_cube first_entries number_for state_number order_of same_face whither inverse_rot turn_of quarter_of kind_face layers_of takes target source moved run move_of tabulate or_else first_of bars joins same_kind dfs passes
two_widths = record { smallest = record { here = refl; there = refl }; size_6 = record { here = refl; there = refl } }
