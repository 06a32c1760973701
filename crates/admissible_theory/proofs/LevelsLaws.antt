-- Numbers that count moves from a start are admissible where each candidate is undone by a candidate.
use Prim.Native.Nat.{ℕ, suc, ◌≤◌}
use mathlib.Core.Path.{◌≡◌, sym}
use mathlib.Core.List.{List, [], ◌∷◌, Memᴰ}
use native.Mathlib.Omega.{arith}
use lib.ListN.{length}
use Rattle.ground.proofs.ChoiceLaws.{less_cases}
use Rattle.search_theory.specs.Search.{Task, run_task, Admissible}
use Rattle.search_theory.proofs.PathFreeLaws.{Follows, solves_ends}
use Rattle.admissible_theory.proofs.BestLaws.{KeepsStates}
use Rattle.search_theory.specs.Levels.{ReachIn}

-- a candidate that undoes c on every state
pub record Undone (t : Task) (State : List ℕ → Type 0) (c : ℕ) : Type 0 where
  pub inverse : ℕ
  pub candidate : Memᴰ inverse t.candidates
  pub undoes : (s : List ℕ) → State s → t.moved inverse (t.moved c s) ≡ s

-- the number of a state reached by at most `depth` candidates is at most their count, any other at most depth + 1, and 0 is a start's
pub record CountsMoves (t : Task) (Start : List ℕ → Type 0) (depth : ℕ) : Type 0 where
  pub low : (s : List ℕ) (n : ℕ) → n ≤ depth → ReachIn t.moved t.candidates Start n s → t.number s ≤ n
  pub top : (s : List ℕ) → t.number s ≤ suc depth
  pub goal : (s : List ℕ) → t.number s ≡ 0 → Start s

module _ (t : Task) (State : List ℕ → Type 0) (kept : KeepsStates t State) where
  -- the inverses lead back from a goal
  led_back : (Start : List ℕ → Type 0) → ((c : ℕ) → Memᴰ c t.candidates → Undone t State c)
      → (l q s : List ℕ) → State s → Follows t l q → Start (run_task t q s) → ReachIn t.moved t.candidates Start (length q) s
  unfolding run_task
  led_back Start inverses l [] s st f r = r
  led_back Start inverses l (c ∷ q) s st f r =
      let b = inverses c f.0 in
      record { state = t.moved c s; move = b.inverse; from = led_back Start inverses (c ∷ []) q (t.moved c s) (kept c f.0 s st) f.2 r; candidate = b.candidate; leads = sym (b.undoes s st) }

  pub counted : (Start : List ℕ → Type 0) (depth : ℕ) → CountsMoves t Start depth → ((c : ℕ) → Memᴰ c t.candidates → Undone t State c)
      → Admissible t State
  counted Start depth n inverses s st q a =
      let e = solves_ends t a in
      less_cases depth (length q) (λ h. omega (arith, n.top s))
      (λ h. n.low s (length q) h (led_back Start inverses [] q s st e.follows (n.goal _ e.goal)))
