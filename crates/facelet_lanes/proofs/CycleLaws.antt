-- A ring that is turned in place: each of its places has what stood where it came from, all others are as they were. A key counts the
-- cells of the ring in the order in which they are done, so that no place is met twice.
use Prim.Native.Nat.{ℕ, zero, suc, ◌+◌, ◌-◌, ◌*◌, ◌<◌, ◌≤◌}
use mathlib.Core.Path.{◌≡◌, refl, ap, sym, subst, ◌∙◌}
use mathlib.Core.Bool.{true, false, ◌&&◌}
use mathlib.Core.List.{List}
use native.Mathlib.Omega.{arith}
use native.Mathlib.Nat.{add-zero, add-suc, suc-mul, mul-le-mul_right}
use lib.Dec.{ltb, leb, eqb}
use lib.ListN.{length, get_or, set, length-set}
use lib.Seq.{get_or-set_same, get_or-set_other}
use borrow.Author.Tests.{eqb-true, eqb-false, lt-ltb, le-ltb, le-leb, lt-leb}
use Rattle.generic_cube.specs.Inner.{Sized}
use Rattle.ground.specs.Choice.{pick}
use Rattle.ground.proofs.ChoiceLaws.{bool_cases, less_cases}
use Rattle.generic_cube.specs.Sizes.{stickers}
use Rattle.sticker.proofs.PlaceLaws.{digits_below}
use Rattle.facelet_lanes.specs.InnerLanes.{ring_lane, ring_of, prior, cycled, line_cycled, ring_turned}
use Rattle.facelet_lanes.proofs.LaneLaws.{length_line, length_ring}
use Rattle.facelet_lanes.proofs.RingLaws.{ring_place, Cell, ring_below}

prior_at : (t : ℕ) (x : ℕ → ℕ) → 1 ≤ t → t ≤ 3 → prior t (x 3) (x 2) (x 1) ≡ x (4 - t)
unfolding prior
prior_at zero x a b = absurd (omega arith)
prior_at (suc zero) x a b = refl
prior_at (suc (suc zero)) x a b = refl
prior_at (suc (suc (suc zero))) x a b = refl
prior_at (suc (suc (suc (suc t)))) x a b = absurd (omega arith)

-- places that get what a function says of them
module _ (g : ℕ → ℕ) (l : List ℕ) (i v j : ℕ) (h : i < length l) (e : v ≡ g i) where
  put_hit : j ≡ i → get_or (set l i v) j 0 ≡ g j
  put_hit d = subst (λ (x : ℕ). get_or (set l i v) x 0 ≡ g x) (sym d) (get_or-set_same l i v 0 h ∙ e)

  put_keep : get_or l j 0 ≡ g j → get_or (set l i v) j 0 ≡ g j
  put_keep k = bool_cases (eqb j i) (λ t. put_hit (eqb-true j i t)) (λ t. get_or-set_other l i j v 0 (eqb-false j i t) ∙ k)

-- the lane of a place in its cell
pub record Around (n ring p q j : ℕ) : Type 0 where
  pub lane : ℕ
  pub small : lane < 4
  pub is : j ≡ ring_place n ring p q lane

-- a key of a ring's places
pub record CellKey (n ring lines count : ℕ) (key : ℕ → ℕ) : Type 0 where
  pub sized : Sized n
  pub ring_is : ring < 18
  pub deep : lines ≤ n
  pub wide : count ≤ n
  pub of_place : (p q k : ℕ) → p < lines → q < count → key (ring_place n ring p q k) ≡ p * count + q
  pub place_of : (p q j : ℕ) → p < lines → q < count → j < stickers n → key j ≡ p * count + q → Around n ring p q j

-- a number from M on and below N, and not
pub in_range : (M N k : ℕ) → M ≤ k → k < N → (leb M k && ltb k N) ≡ true
in_range M N k a b = rw (le-leb M k a, lt-ltb k N b)

pub past_range : (M N k : ℕ) → N ≤ k → (leb M k && ltb k N) ≡ false
past_range M N k h = bool_cases (leb M k) (λ t. rw (t, le-ltb k N h)) (λ t. rw t)

pub no_range : (M N k : ℕ) → N ≤ M → (leb M k && ltb k N) ≡ false
no_range M N k h = less_cases k M (λ a. rw (lt-leb M k a)) (λ a. past_range M N k (omega arith))

-- what is known of a cube where a ring's cells from M on and below N are done
abbrev pub CellsDone : ℕ → (ℕ → ℕ) → (ℕ → ℕ) → List ℕ → List ℕ → ℕ → ℕ → List ℕ → Type 0
CellsDone n key from l c₀ M N c = (j : ℕ) → j < stickers n → get_or c j 0 ≡ pick (leb M (key j) && ltb (key j) N) (get_or l (from j) 0) (get_or c₀ j 0)

module _ {n ring end count : ℕ} {key : ℕ → ℕ} (t : ℕ) (from : ℕ → ℕ) (first : ℕ) (l c₀ : List ℕ) (K : CellKey n ring end count key) (t1 : 1 ≤ t) (t3 : t ≤ 3)
    (long : length c₀ ≡ stickers n)
    (from_is : (p q k : ℕ) → first ≤ p → p < end → q < count → from (ring_place n ring p q k) ≡ ring_place n ring p q (k + (4 - t)))
    (old : (j : ℕ) → j < stickers n → first * count ≤ key j → key j < end * count → get_or c₀ j 0 ≡ get_or l j 0) where
  cell : (p q : ℕ) → p < end → q < count → Cell n ring p q
  cell p q hp hq =
      record { sized = K.sized; ring_is = K.ring_is; line = omega (arith, K.deep); column = omega (arith, K.wide) }

  cell_done : (p q : ℕ) (c : List ℕ) → first ≤ p → p < end → q < count → length c ≡ stickers n → CellsDone n key from l c₀ (first * count) (p * count + q) c
      → CellsDone n key from l c₀ (first * count) (suc (p * count + q))
      (cycled t (ring_place n ring p q 0) (ring_place n ring p q 1) (ring_place n ring p q 2) (ring_place n ring p q 3) c)
  unfolding ring_lane cycled
  cell_done p q c hf hp hq hl s j hj =
      bool_cases (eqb (key j) N)
      (λ b. let e = eqb-true (key j) N b in let a = K.place_of p q j hp hq hj e in
      hit a.lane a.small a.is
      ∙ sym (ap (λ x. pick x (g j) (get_or c₀ j 0)) (in_range M (suc N) (key j) (omega (arith, from_first)) (omega arith))))
      (λ b. let d = eqb-false (key j) N b in miss d ∙ s j hj ∙ ap (λ x. pick (leb M (key j) && x) (g j) (get_or c₀ j 0)) (same d))
    where
      M : ℕ
      M = first * count

      N : ℕ
      N = p * count + q

      P : ℕ → ℕ
      P k = ring_place n ring p q k

      g : ℕ → ℕ
      g x = get_or l (from x) 0

      from_first : M ≤ N
      from_first = omega (arith, mul-le-mul_right count hf)

      few : N < end * count
      few = digits_below count end p q hp hq

      within : (k : ℕ) → P k < length c
      within k = let b = ring_below (cell p q hp hq) k in omega arith

      was : (k : ℕ) → get_or c (P k) 0 ≡ get_or l (P k) 0
      was k =
          let b = ring_below (cell p q hp hq) k in
          let e = K.of_place p q k hp hq in
          s (P k) b ∙ ap (λ x. pick x (g (P k)) (get_or c₀ (P k) 0)) (past_range M N (key (P k)) (omega arith))
          ∙ old (P k) b (omega (arith, from_first)) (omega (arith, few))

      value : (k : ℕ) → prior t (get_or c (P (k + 3)) 0) (get_or c (P (k + 2)) 0) (get_or c (P (k + 1)) 0) ≡ g (P k)
      value k =
          (λ i. prior t (was (k + 3) i) (was (k + 2) i) (was (k + 1) i))
          ∙ prior_at t (λ x. get_or l (P (k + x)) 0) t1 t3
          ∙ sym (ap (λ x. get_or l x 0) (from_is p q k hf hp hq))

      v : ℕ → ℕ
      v k = prior t (get_or c (P (k + 3)) 0) (get_or c (P (k + 2)) 0) (get_or c (P (k + 1)) 0)

      c₁ : List ℕ
      c₁ = set c (P 0) (v 0)

      c₂ : List ℕ
      c₂ = set c₁ (P 1) (v 1)

      c₃ : List ℕ
      c₃ = set c₂ (P 2) (v 2)

      l₁ : P 1 < length c₁
      l₁ = simp length-set (within 1)

      l₂ : P 2 < length c₂
      l₂ = simp length-set (within 2)

      l₃ : P 3 < length c₃
      l₃ = simp length-set (within 3)

      hit : (k : ℕ) → k < 4 → j ≡ P k → get_or (set c₃ (P 3) (v 3)) j 0 ≡ g j
      hit zero h e =
          put_keep g c₃ (P 3) (v 3) j l₃ (value 3) (put_keep g c₂ (P 2) (v 2) j l₂ (value 2)
          (put_keep g c₁ (P 1) (v 1) j l₁ (value 1) (put_hit g c (P 0) (v 0) j (within 0) (value 0) e)))
      hit (suc zero) h e =
          put_keep g c₃ (P 3) (v 3) j l₃ (value 3) (put_keep g c₂ (P 2) (v 2) j l₂ (value 2) (put_hit g c₁ (P 1) (v 1) j l₁ (value 1) e))
      hit (suc (suc zero)) h e = put_keep g c₃ (P 3) (v 3) j l₃ (value 3) (put_hit g c₂ (P 2) (v 2) j l₂ (value 2) e)
      hit (suc (suc (suc zero))) h e = put_hit g c₃ (P 3) (v 3) j l₃ (value 3) e
      hit (suc (suc (suc (suc k)))) h e = absurd (omega arith)

      other : (key j ≡ N → ⊥) → (k : ℕ) → j ≡ P k → ⊥
      other d k e = d (ap key e ∙ K.of_place p q k hp hq)

      miss : (key j ≡ N → ⊥) → get_or (set c₃ (P 3) (v 3)) j 0 ≡ get_or c j 0
      miss d =
          get_or-set_other c₃ (P 3) j (v 3) 0 (other d 3) ∙ get_or-set_other c₂ (P 2) j (v 2) 0 (other d 2)
          ∙ get_or-set_other c₁ (P 1) j (v 1) 0 (other d 1) ∙ get_or-set_other c (P 0) j (v 0) 0 (other d 0)

      same : (key j ≡ N → ⊥) → ltb (key j) N ≡ ltb (key j) (suc N)
      same d =
          less_cases (key j) N (λ a. lt-ltb (key j) N a ∙ sym (lt-ltb (key j) (suc N) (omega arith)))
          (λ a. le-ltb (key j) N a ∙ sym (le-ltb (key j) (suc N) (omega arith)))

  line_done : (p : ℕ) (c : List ℕ) → first ≤ p → p < end → length c ≡ stickers n → CellsDone n key from l c₀ (first * count) (p * count) c
      → (q : ℕ) → q ≤ count → CellsDone n key from l c₀ (first * count) (p * count + q)
      (line_cycled t p (ring_of n ring) q c)
  unfolding line_cycled
  line_done p c hf hp hl s zero hq = subst (λ (N : ℕ). CellsDone n key from l c₀ (first * count) N c) (sym (add-zero (p * count))) s
  line_done p c hf hp hl s (suc q) hq =
      subst (λ (N : ℕ). CellsDone n key from l c₀ (first * count) N (line_cycled t p (ring_of n ring) (suc q) c))
      (sym (add-suc (p * count) q))
      (cell_done p q (line_cycled t p (ring_of n ring) q c) hf hp (omega arith)
      (length_line t p _ q c ∙ hl) (line_done p c hf hp hl s q (omega arith)))

  pub ring_turned_lem : (p : ℕ) → first + p ≤ end → CellsDone n key from l c₀ (first * count) ((first + p) * count) (ring_turned n t ring count first p c₀)
  unfolding ring_turned
  ring_turned_lem zero hp =
      let e = ap (λ x. x * count) (add-zero first) in
      λ j hj. sym (ap (λ x. pick x (get_or l (from j) 0) (get_or c₀ j 0)) (no_range (first * count) ((first + 0) * count) (key j) (omega arith)))
  ring_turned_lem (suc p) hp =
      let e : (first + p) * count + count ≡ (first + suc p) * count = sym (suc-mul (first + p) count) ∙ ap (λ x. x * count) (sym (add-suc first p)) in
      subst (λ (N : ℕ). CellsDone n key from l c₀ (first * count) N (ring_turned n t ring count first (suc p) c₀)) e
      (line_done (first + p) (ring_turned n t ring count first p c₀) (omega arith) (omega arith) (length_ring n t ring count first p c₀ ∙ long)
      (ring_turned_lem p (omega arith)) count (omega arith))
