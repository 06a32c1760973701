-- The promises of the search: demand 3, and that one answer meets it.
use Prim.Native.Nat.{ℕ, ◌≤◌}
use mathlib.Core.Path.{◌≡◌, refl, ap}
use mathlib.Core.Logic.{◌↔◌}
use mathlib.Core.Bool.{true}
use mathlib.Core.List.{List, [], ◌∷◌}
use native.Mathlib.Omega.{arith}
use lib.Dec.{eqb}
use lib.ListN.{length, drop}
use lib.Seq.{take_at}
use borrow.Author.Tests.{eq-eqb}
use Rattle.std.specs.Prelude.{Option, None, Result, Ok}
use Rattle.ground.specs.declared.refusals.Refusal.{Refusal}
use Rattle.generic_cube.specs.Sizes.{stickers}
use Rattle.generic_cube.specs.Code.{move_of}
use Rattle.geometric_moves.specs.Turn as Turn
use Rattle.geometric_moves.proofs.MovedLaws.{length_moved}
use Rattle.search_theory.specs.Search.{Reply, none, found, run_task, Solves, Best}
use Rattle.search_theory.specs.CubeSearch.{CubeSearch, task_of, Cube, AdmissibleTable}
use Rattle.admissible_theory.proofs.BestLaws.{best, best_one}
use Rattle.ida_star.specs.IdaStar.{reply, search_refusal, outcome_of, output_of}
use Rattle.ida_star.proofs.IdaStarLaws.{search_taken}
use Rattle.theorems.specs.Searching.{reply_told, Ran, BestAnswer, NoneExactly, OneBest, RunIsApplied, BuiltThenSearched}
use Rattle.theorems.proofs.BuildingLaws.{built_admits}

told_is : (r : Reply) (out : List ℕ) → reply_told (Ok (outcome_of r)) (output_of r out) ≡ r
told_is none out = refl
told_is (found p) out = ap found (take_at p (drop (length p) out) (length p) refl)

-- the reply is the best one
pub best_reply : (q : CubeSearch) → length q.cube ≡ stickers q.n → AdmissibleTable q → Best (task_of q) q.limit q.cube (reply q)
best_reply q whole low = best (task_of q) (Cube q.n) (λ c m s h. length_moved q.n (move_of c) s) low q.limit q.cube whole

module _ {q : CubeSearch} {out' : List ℕ} {r : Result (Option ℕ) Refusal} (e : Ran q out' r) where
  unrefused : eqb (search_refusal q (length e.work) (length e.out)) 0 ≡ true
  unrefused = eq-eqb _ 0 e.taken

  -- it is what was answered and written
  pub ran_outcome : r ≡ Ok (outcome_of (reply q))
  ran_outcome = rw unrefused at e.result.answered

  ran_output : out' ≡ output_of (reply q) e.out
  ran_output = rw unrefused at e.result.written

  pub ran_told : reply_told r out' ≡ reply q
  ran_told = rw (ran_outcome, ran_output) (told_is (reply q) e.out)

  pub ran_best : AdmissibleTable q → Best (task_of q) q.limit q.cube (reply q)
  ran_best low = best_reply q (search_taken q (length e.work) (length e.out) e.taken).starting.whole low

pub best_answer : BestAnswer
best_answer q out' r e low = rw (ran_told e) (ran_best e low)

pub none_exactly : NoneExactly
none_exactly q out' r e low = rw (ran_outcome e) (go (reply q) (ran_best e low))
  where
    go : (x : Reply) → Best (task_of q) q.limit q.cube x
        → (◌≡◌ {A = Result (Option ℕ) Refusal} (Ok (outcome_of x)) (Ok None)) ↔ ((p : List ℕ) → Solves (task_of q) q.cube p → length p ≤ q.limit → ⊥)
    go none b = (λ h. b, λ h. refl)
    go (found p) b = (λ h. let w : ◌≡◌ {A = ℕ} 0 1 = cc in absurd (omega arith), λ h. absurd (h p b.solves b.within))

pub one_best : OneBest
one_best q whole low r b = best_one (task_of q) q.limit q.cube r (reply q) b (best_reply q whole low)

pub run_is_applied : RunIsApplied
unfolding run_task Turn.run
run_is_applied q [] s = refl
run_is_applied q (c ∷ p) s = run_is_applied q p (Turn.moved q.n (move_of c) s)

pub built_then_searched : BuiltThenSearched
built_then_searched q starts table table' count p is undo out' r e = best_answer q out' r e (built_admits q starts table table' count p is undo)
