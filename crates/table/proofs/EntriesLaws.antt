-- Laws of entries that are read and written as bytes.
use Prim.Native.Nat.{ℕ, suc, ◌+◌, ◌-◌, ◌*◌, ◌≤◌, ◌<◌}
use mathlib.Core.Path.{◌≡◌, sym, ap, ◌∙◌}
use mathlib.Core.List.{List, ◌++◌}
use native.Mathlib.Nat.{suc-mul, mul-le-mul_right}
use native.Mathlib.Omega.{arith}
use lib.ListN.{length, take, drop, get_or, length-append, length-drop, take-append-drop}
use lib.Seq.{length-take-le, take_at, drop_at, take-append-le, drop-append-le, take-take, drop-drop, get_or-take, get_or-drop}
use Rattle.ground.proofs.ChoiceLaws.{order_cases}
use Rattle.table.specs.Entries.{entry_key, entry_number}
use Rattle.table.specs.Inner.{entry_at, with_entry}

-- the key, the number and the length of an entry
pub entry_key_lem : (m : ℕ) (t : List ℕ) (i : ℕ) → entry_key m t i ≡ take m (entry_at m t i)
entry_key_lem m t i = sym (take-take m (m + 1) (drop (i * (m + 1)) t) (omega arith))

pub entry_number_lem : (m : ℕ) (t : List ℕ) (i : ℕ) → entry_number m t i ≡ get_or (entry_at m t i) m 0
entry_number_lem m t i = sym (get_or-take (m + 1) (drop (i * (m + 1)) t) m 0 (omega arith) ∙ get_or-drop (i * (m + 1)) t m 0)

pub entry_long : (m i : ℕ) (t : List ℕ) → i * (m + 1) + (m + 1) ≤ length t → length (entry_at m t i) ≡ m + 1
entry_long m i t h = length-take-le (m + 1) (drop (i * (m + 1)) t) (omega (arith, length-drop (i * (m + 1)) t))

-- an entry of a front
pub entry_front : (m k : ℕ) (x y : List ℕ) → k * (m + 1) + (m + 1) ≤ length x → entry_at m (x ++ y) k ≡ entry_at m x k
entry_front m k x y h =
    ap (take (m + 1)) (drop-append-le (k * (m + 1)) x y (omega arith))
    ∙ take-append-le (m + 1) (drop (k * (m + 1)) x) y (omega (arith, length-drop (k * (m + 1)) x))

-- an earlier entry ends before a later one begins
pub entry_order : (m : ℕ) {i k : ℕ} → i < k → i * (m + 1) + (m + 1) ≤ k * (m + 1)
entry_order m {i} {k} lt = let h : suc i ≤ k = lt in omega (arith, suc-mul i (m + 1), mul-le-mul_right (m + 1) h)

-- what stands where after entry i was written
module _ (m i : ℕ) (e t : List ℕ) (long : length e ≡ m + 1) (fits : i * (m + 1) + (m + 1) ≤ length t) where
  before_long : length (take (i * (m + 1)) t) ≡ i * (m + 1)
  before_long = length-take-le (i * (m + 1)) t (omega arith)

  from_here : drop (i * (m + 1)) (with_entry m i e t) ≡ e ++ drop (i * (m + 1) + (m + 1)) t
  from_here = drop_at (take (i * (m + 1)) t) (e ++ drop (i * (m + 1) + (m + 1)) t) (i * (m + 1)) before_long

  pub written_long : length (with_entry m i e t) ≡ length t
  written_long = simp (length-append, length-drop) (omega (arith, before_long))

  pub written_here : entry_at m (with_entry m i e t) i ≡ e
  written_here = ap (take (m + 1)) from_here ∙ take_at e (drop (i * (m + 1) + (m + 1)) t) (m + 1) long

  pub written_past : drop (i * (m + 1) + (m + 1)) (with_entry m i e t) ≡ drop (i * (m + 1) + (m + 1)) t
  written_past =
      sym (drop-drop (m + 1) (i * (m + 1)) (with_entry m i e t))
      ∙ ap (drop (m + 1)) from_here
      ∙ drop_at e (drop (i * (m + 1) + (m + 1)) t) (m + 1) long

  pub written_elsewhere : (k : ℕ) → (k ≡ i → ⊥) → entry_at m (with_entry m i e t) k ≡ entry_at m t k
  written_elsewhere k other =
      order_cases k i
      (λ lt.
      let ends : k * (m + 1) + (m + 1) ≤ length (take (i * (m + 1)) t) = omega (arith, before_long, entry_order m lt) in
      entry_front m k (take (i * (m + 1)) t) (e ++ drop (i * (m + 1) + (m + 1)) t) ends
      ∙ sym (entry_front m k (take (i * (m + 1)) t) (drop (i * (m + 1)) t) ends)
      ∙ ap (λ (l : List ℕ). entry_at m l k) (take-append-drop (i * (m + 1)) t))
      (λ same. absurd (other same))
      (λ gt.
      let past : i * (m + 1) + (m + 1) + (k * (m + 1) - (i * (m + 1) + (m + 1))) ≡ k * (m + 1) = omega (arith, entry_order m gt) in
      let from : (l : List ℕ) → drop (k * (m + 1)) l ≡ drop (k * (m + 1) - (i * (m + 1) + (m + 1))) (drop (i * (m + 1) + (m + 1)) l) =
      λ l. ap (λ (n : ℕ). drop n l) (sym past) ∙ sym (drop-drop (k * (m + 1) - (i * (m + 1) + (m + 1))) (i * (m + 1) + (m + 1)) l) in
      ap (take (m + 1)) (from (with_entry m i e t) ∙ ap (drop (k * (m + 1) - (i * (m + 1) + (m + 1)))) written_past ∙ sym (from t)))
