-- Loops that fill a slice from the front, whatever they fill it with: what they keep true, and what the slice is at their end.
use Prim.Native.Nat.{ℕ, ◌+◌, ◌<◌, ◌≤◌}
use mathlib.Core.Path.{◌≡◌, refl, sym, subst, ◌∙◌}
use mathlib.Core.Logic.{⊎_elim}
use mathlib.Core.List.{List}
use native.Mathlib.Omega.{arith}
use native.Mathlib.Nat.{eq-or-lt_of_le}
use lib.ListN.{length, get_or, set, length-set}
use lib.Seq.{get_or-set_same, get_or-set_other}
use Rattle.ground.specs.Lists.{tabulate}
use Rattle.ground.proofs.ListLaws.{tabulated}

-- the first j elements are f 0, f 1, ..
abbrev pub Filled : (ℕ → ℕ) → ℕ → List ℕ → Type 0
Filled f j l = (k : ℕ) → k < j → get_or l k 0 ≡ f k

pub filled_none : (f : ℕ → ℕ) (l : List ℕ) → Filled f 0 l
filled_none f l k h = absurd (omega arith)

pub filled_more : (f : ℕ → ℕ) (l : List ℕ) (j v : ℕ) → j < length l → v ≡ f j → Filled f j l → Filled f (j + 1) (set l j v)
filled_more f l j v h e d k hk = ⊎_elim same less (eq-or-lt_of_le {n = k} {m = j} (omega arith))
  where
    same : k ≡ j → get_or (set l j v) k 0 ≡ f k
    same q = subst (λ (i : ℕ). get_or (set l j v) i 0 ≡ f i) (sym q) (get_or-set_same l j v 0 h ∙ e)

    less : k < j → get_or (set l j v) k 0 ≡ f k
    less q = get_or-set_other l j k v 0 (omega arith) ∙ d k q

-- `l`, once `l₀`, has its first j places done
pub record Filling (f : ℕ → ℕ) (l₀ l : List ℕ) (j : ℕ) : Type 0 where
  pub long : length l ≡ length l₀
  pub most : j ≤ length l
  pub done : Filled f j l

module _ {f : ℕ → ℕ} {l₀ : List ℕ} where
  pub fill_none : Filling f l₀ l₀ 0
  fill_none = record { long = refl; most = omega arith; done = filled_none f l₀ }

  pub fill_more : {l : List ℕ} {j v : ℕ} → Filling f l₀ l j → j < length l → v ≡ f j → Filling f l₀ (set l j v) (j + 1)
  fill_more {l} {j} {v} g h e =
      record {
        long = length-set l j v ∙ g.long;
        most = simp length-set (omega arith);
        done = filled_more f l j v h e g.done;
      }

  pub fill_all : {l : List ℕ} {j : ℕ} → Filling f l₀ l j → length l ≤ j → l ≡ tabulate (length l₀) f
  fill_all {l} {j} g h = tabulated f l (length l₀) g.long (λ i k. let e = g.long in g.done i (omega arith))

-- `l`, once `l₀`, has its first j places done, and the others as they were
pub record Changing (f : ℕ → ℕ) (l₀ l : List ℕ) (j : ℕ) : Type 0 where
  pub filling : Filling f l₀ l j
  pub rest : (k : ℕ) → j ≤ k → get_or l k 0 ≡ get_or l₀ k 0

module _ {f : ℕ → ℕ} {l₀ : List ℕ} where
  pub change_set : {l : List ℕ} {j v : ℕ} → Changing f l₀ l j → j < length l → v ≡ f j → Changing f l₀ (set l j v) (j + 1)
  change_set {l} {j} {v} c h e =
      record {
        filling = fill_more c.filling h e;
        rest = λ k hk. get_or-set_other l j k v 0 (omega arith) ∙ c.rest k (omega arith);
      }
