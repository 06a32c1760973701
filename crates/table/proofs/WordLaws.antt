-- Keys by words of six bytes: that words stand as their bytes do.
use mathlib.Core.Path.{◌≡◌, refl, sym, ap, ap₂, ◌∙◌}
use mathlib.Core.List.{List}
use Prim.Native.Nat.{ℕ, zero, suc, ◌+◌, ◌*◌, ◌/◌, ◌≤◌, ◌<◌}
use native.Mathlib.Nat.{add-zero}
use native.Mathlib.Omega.{arith}
use lib.ListN.{length, drop, get_or}
use borrow.Author.Tests.{le-ltb, ne_eqb}
use Rattle.std.specs.declared.cmp.Ordering.{Ordering}
use Rattle.std.specs.declared.cmp.Ordering.TheVariants.{Greater}
use Rattle.ground.proofs.ChoiceLaws.{order_cases}
use Rattle.table.specs.Order.{order_of}
use Rattle.table.specs.Inner.{word_of}
use Rattle.table.proofs.OrderLaws.{decided, decided_less, decided-next, byte_step}

module _ {v w : ℕ} (rest : Ordering) where
  pub decided_more : w < v → decided v w rest ≡ Greater
  unfolding decided
  decided_more gt = rw (le-ltb v w (omega arith), ne_eqb v w (λ e. omega arith))

-- numbers with a byte behind each decide as the numbers and then the bytes do
decided_digit : (v w a b : ℕ) (rest : Ordering) → a < 256 → b < 256 → decided v w (decided a b rest) ≡ decided (256 * v + a) (256 * w + b) rest
decided_digit v w a b rest h g =
    order_cases v w
    (λ lt. decided_less _ lt ∙ sym (decided_less _ (omega arith)))
    (λ eq. decided-next _ (omega arith) (omega arith) ∙ order_cases a b
    (λ lt. decided_less _ lt ∙ sym (decided_less _ (omega arith)))
    (λ e. decided-next _ (omega arith) (omega arith) ∙ sym (decided-next _ (omega arith) (omega arith)))
    (λ gt. decided_more _ gt ∙ sym (decided_more _ (omega arith))))
    (λ gt. decided_more _ gt ∙ sym (decided_more _ (omega arith)))

-- the first k bytes from j on as a number, the first the highest
unfoldable bytes_up : List ℕ → ℕ → ℕ → ℕ
bytes_up s j zero = 0
bytes_up s j (suc k) = 256 * bytes_up s j k + get_or s (j + k) 0

word_up : (s : List ℕ) (j : ℕ) → word_of s j ≡ bytes_up s j 6
unfolding bytes_up
word_up s j = simp (add-zero) (omega arith)

module _ (x y : List ℕ) (e : length x ≡ length y) (below : (j : ℕ) → get_or x j 0 < 256) (below' : (j : ℕ) → get_or y j 0 < 256) where
  bytes_step : (j k : ℕ) → j + k ≤ length x
      → order_of (drop j x) (drop j y) ≡ decided (bytes_up x j k) (bytes_up y j k) (order_of (drop (j + k) x) (drop (j + k) y))
  unfolding bytes_up decided
  bytes_step j zero h = rw add-zero refl
  bytes_step j (suc k) h =
      let d : j + k + 1 ≡ j + suc k = omega arith in
      bytes_step j k (omega arith) ∙ ap (decided (bytes_up x j k) (bytes_up y j k)) (byte_step x y e (j + k) (omega arith))
      ∙ decided_digit (bytes_up x j k) (bytes_up y j k) (get_or x (j + k) 0) (get_or y (j + k) 0) _ (below (j + k)) (below' (j + k))
      ∙ ap (λ i. decided (bytes_up x j (suc k)) (bytes_up y j (suc k)) (order_of (drop i x) (drop i y))) d

  -- the i-th words, as they were read
  pub word_step_lem : (i : ℕ) → i < length x / 6 → {v w : ℕ} → v ≡ word_of x (6 * i) → w ≡ word_of y (6 * i)
      → order_of (drop (6 * i) x) (drop (6 * i) y) ≡ decided v w (order_of (drop (6 * (i + 1)) x) (drop (6 * (i + 1)) y))
  word_step_lem i h {v} {w} p q =
      let d : 6 * i + 6 ≡ 6 * (i + 1) = omega arith in
      bytes_step (6 * i) 6 (omega arith)
      ∙ ap₂ (λ a b. decided a b (order_of (drop (6 * i + 6) x) (drop (6 * i + 6) y))) (sym (p ∙ word_up x (6 * i))) (sym (q ∙ word_up y (6 * i)))
      ∙ ap (λ k. decided v w (order_of (drop k x) (drop k y))) d
