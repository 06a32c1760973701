-- Laws of places: `slot_of` undoes `place_of`, and `unflat` undoes `flat`, at every size.
use Prim.Native.Nat.{ℕ, zero, suc, ◌+◌, ◌*◌, ◌/◌, ◌%◌, ◌<◌, ◌≤◌}
use mathlib.Core.Path.{◌≡◌, refl, ap, sym, subst, ◌∙◌}
use mathlib.Core.Bool.{true, false}
use native.Mathlib.Omega.{arith}
use native.Mathlib.Nat.{mul-add-div_right, mul-add-mod_self_right, div-eq_of_lt, mod-eq_of_lt, add-zero, mul-le-mul, mul-le-mul_left, mul-le-mul_right, div-add-mod', mod-lt, div-lt_iff_lt-mul, suc-mul}
use lib.Dec.{eqb}
use borrow.Author.Tests.{eq-eqb, ne_eqb}
use Rattle.sticker.specs.declared.Face.{Face}
use Rattle.sticker.specs.declared.Face.TheVariants.{U, R, F, D, L, B}
use Rattle.sticker.specs.Place.{Pos, Slot, top, bot, neg, mid, num_of, nth_face, seat, place_of, face_of, col_on, row_on, slot_of, flat, unflat, place, index, InCube}

-- a coordinate within the face is neither n nor -n, and neither is its negation
mid-top : (n c : ℕ) → eqb (mid c) (top n) ≡ false
mid-top n c = ne_eqb (mid c) (top n) (omega arith)

mid-bot : (c : ℕ) → eqb (mid c) bot ≡ false
mid-bot c = ne_eqb (mid c) bot (omega arith)

neg-top : (n c : ℕ) → c < n → eqb (neg n (mid c)) (top n) ≡ false
neg-top n c h = ne_eqb (neg n (mid c)) (top n) (omega arith)

neg-bot : (n c : ℕ) → c < n → eqb (neg n (mid c)) bot ≡ false
neg-bot n c h = ne_eqb (neg n (mid c)) bot (omega arith)

top-top : (n : ℕ) → eqb (top n) (top n) ≡ true
top-top n = eq-eqb (top n) (top n) refl

bot-top : (n : ℕ) → 0 < n → eqb bot (top n) ≡ false
bot-top n h = ne_eqb bot (top n) (omega arith)

-- a sticker's place lies on the face it was made for
pub face_seat : (n : ℕ) (f : Face) (c r : ℕ) → c < n → r < n → face_of n (seat n f (mid c) (mid r)) ≡ f
face_seat n U c r hc hr = simp (mid-top n c, mid-bot c, top-top n)
face_seat n R c r hc hr = simp (top-top n)
face_seat n F c r hc hr = simp (mid-top n c, mid-bot c, neg-top n r hr, neg-bot n r hr, top-top n)
face_seat n D c r hc hr = let h : 0 < n = omega arith in simp (mid-top n c, mid-bot c, bot-top n h)
face_seat n L c r hc hr = let h : 0 < n = omega arith in simp (bot-top n h)
face_seat n B c r hc hr =
    let h : 0 < n = omega arith in simp (neg-top n c hc, neg-bot n c hc, neg-top n r hr, neg-bot n r hr, bot-top n h)

col_seat : (n : ℕ) (f : Face) (c r : ℕ) → c < n → r < n → col_on n f (seat n f (mid c) (mid r)) / 2 ≡ c
col_seat n U c r hc hr = omega arith
col_seat n R c r hc hr = omega arith
col_seat n F c r hc hr = omega arith
col_seat n D c r hc hr = omega arith
col_seat n L c r hc hr = omega arith
col_seat n B c r hc hr = omega arith

row_seat : (n : ℕ) (f : Face) (c r : ℕ) → c < n → r < n → row_on n f (seat n f (mid c) (mid r)) / 2 ≡ r
row_seat n U c r hc hr = omega arith
row_seat n R c r hc hr = omega arith
row_seat n F c r hc hr = omega arith
row_seat n D c r hc hr = omega arith
row_seat n L c r hc hr = omega arith
row_seat n B c r hc hr = omega arith

pub slot_eq : (s t : Slot) → s.face ≡ t.face → s.col ≡ t.col → s.row ≡ t.row → s ≡ t
slot_eq s t e d g = λ i. record { face = e i; row = g i; col = d i }

pub pos_eq : (p q : Pos) → p.x ≡ q.x → p.y ≡ q.y → p.z ≡ q.z → p ≡ q
pos_eq p q a b c = λ i. record { x = a i; y = b i; z = c i }

-- `slot_of` undoes `place_of`
pub slot-place : (n : ℕ) (s : Slot) → s.col < n → s.row < n → slot_of n (place_of n s) ≡ s
slot-place n s hc hr =
    let e : face_of n (place_of n s) ≡ s.face = face_seat n s.face s.col s.row hc hr in
    slot_eq _ _ e
    (ap (λ f. col_on n f (place_of n s) / 2) e ∙ col_seat n s.face s.col s.row hc hr)
    (ap (λ f. row_on n f (place_of n s) / 2) e ∙ row_seat n s.face s.col s.row hc hr)

-- two digits to the base n
pub high_digit : (n a b : ℕ) → b < n → (a * n + b) / n ≡ a
high_digit n a b h = let p : 0 < n = omega arith in rw (mul-add-div_right p a b, div-eq_of_lt h) (add-zero a)

pub low_digit : (n a b : ℕ) → b < n → (a * n + b) % n ≡ b
low_digit n a b h = rw (mul-add-mod_self_right a n b) (mod-eq_of_lt h)

pub digits_below : (n m a b : ℕ) → a < m → b < n → a * n + b < m * n
digits_below n m a b ha hb = omega (arith, mul-le-mul_right n ha, suc_row n a)
  where
    suc_row : (n a : ℕ) → suc a * n ≡ a * n + n
    suc_row n a = native.Mathlib.Nat.suc-mul a n

pub num_nth : (f : Face) → nth_face (num_of f) ≡ f
num_nth U = refl
num_nth R = refl
num_nth F = refl
num_nth D = refl
num_nth L = refl
num_nth B = refl

num_below : (f : Face) → num_of f < 6
num_below U = omega arith
num_below R = omega arith
num_below F = omega arith
num_below D = omega arith
num_below L = omega arith
num_below B = omega arith

pub unflat-flat : (n : ℕ) (s : Slot) → s.col < n → s.row < n → unflat n (flat n s) ≡ s
unflat-flat n s hc hr =
    let a : flat n s / n ≡ num_of s.face * n + s.row = high_digit n (num_of s.face * n + s.row) s.col hc in
    let b : flat n s % n ≡ s.col = low_digit n (num_of s.face * n + s.row) s.col hc in
    let d : (num_of s.face * n + s.row) / n ≡ num_of s.face = high_digit n (num_of s.face) s.row hr in
    let e : (num_of s.face * n + s.row) % n ≡ s.row = low_digit n (num_of s.face) s.row hr in
    slot_eq _ _ (ap (λ k. nth_face (k / n)) a ∙ ap nth_face d ∙ num_nth s.face) b (ap (λ k. k % n) a ∙ e)

pub flat_below : (n : ℕ) (s : Slot) → s.col < n → s.row < n → flat n s < 6 * n * n
flat_below n s hc hr =
    digits_below n (6 * n) (num_of s.face * n + s.row) s.col (digits_below n 6 (num_of s.face) s.row (num_below s.face) hr) hc

pub nth_num : (k : ℕ) → k < 6 → num_of (nth_face k) ≡ k
nth_num zero h = refl
nth_num (suc zero) h = refl
nth_num (suc (suc zero)) h = refl
nth_num (suc (suc (suc zero))) h = refl
nth_num (suc (suc (suc (suc zero)))) h = refl
nth_num (suc (suc (suc (suc (suc k))))) h = omega arith

-- a slot of a cube of size n
pub record Real (n : ℕ) (s : Slot) : Type 0 where
  pub col_ok : s.col < n
  pub row_ok : s.row < n

pub unflat_real : (n j : ℕ) → 0 < n → Real n (unflat n j)
unflat_real n j h = record { col_ok = mod-lt j h; row_ok = mod-lt (j / n) h }

pub flat-unflat : (n j : ℕ) → 0 < n → j < 6 * n * n → flat n (unflat n j) ≡ j
flat-unflat n j h hj =
    let a : j / n < 6 * n = (div-lt_iff_lt-mul h).1 hj in
    let b : j / n / n < 6 = (div-lt_iff_lt-mul h).1 a in
    ap (λ k. (k * n + j / n % n) * n + j % n) (nth_num (j / n / n) b)
    ∙ ap (λ k. k * n + j % n) (div-add-mod' (j / n) n)
    ∙ div-add-mod' j n

-- p is the place of a sticker of the cube of size n: of the sticker in `slot`
pub record Sticker (n : ℕ) (p : Pos) : Type 0 where
  pub slot : Slot
  pub real : Real n slot
  pub here : place_of n slot ≡ p

pub place_sticker : (n j : ℕ) → 0 < n → Sticker n (place n j)
place_sticker n j h = record { slot = unflat n j; real = unflat_real n j h; here = refl }

pub place-index : (n : ℕ) (p : Pos) → Sticker n p → place n (index n p) ≡ p
place-index n p s =
    let e : slot_of n p ≡ s.slot = ap (slot_of n) (sym s.here) ∙ slot-place n s.slot s.real.col_ok s.real.row_ok in
    ap (λ t. place_of n (unflat n (flat n t))) e
    ∙ ap (place_of n) (unflat-flat n s.slot s.real.col_ok s.real.row_ok)
    ∙ s.here

pub index_below : (n : ℕ) (p : Pos) → Sticker n p → index n p < 6 * n * n
index_below n p s =
    let e : slot_of n p ≡ s.slot = ap (slot_of n) (sym s.here) ∙ slot-place n s.slot s.real.col_ok s.real.row_ok in
    subst (λ (t : Slot). flat n t < 6 * n * n) (sym e)
    (flat_below n s.slot s.real.col_ok s.real.row_ok)

pub index-place : (n j : ℕ) → 0 < n → j < 6 * n * n → index n (place n j) ≡ j
index-place n j h hj =
    let r : Real n (unflat n j) = unflat_real n j h in
    ap (flat n) (slot-place n (unflat n j) r.col_ok r.row_ok) ∙ flat-unflat n j h hj

pub room : (n : ℕ) → n ≤ 104 → 6 * n * n ≤ 64896
room n h = mul-le-mul (mul-le-mul_left 6 h) h

pub number_below : (f : Face) (k : ℕ) → k ≡ num_of f → k < 6
number_below f k e = omega (arith, num_below f)

seat_in : (n : ℕ) (f : Face) (c r : ℕ) → c < n → r < n → InCube n (seat n f (mid c) (mid r))
seat_in n U c r hc hr = omega arith
seat_in n R c r hc hr = omega arith
seat_in n F c r hc hr = omega arith
seat_in n D c r hc hr = omega arith
seat_in n L c r hc hr = omega arith
seat_in n B c r hc hr = omega arith

pub sticker_in : (n : ℕ) (p : Pos) → Sticker n p → InCube n p
sticker_in n p s =
    subst (InCube n) s.here (seat_in n s.slot.face s.slot.col s.slot.row s.real.col_ok s.real.row_ok)

pub face_number_lem : (n j : ℕ) → 0 < n → j < 6 * n * n → j / n / n < 6
face_number_lem n j h hj = (div-lt_iff_lt-mul h).1 ((div-lt_iff_lt-mul h).1 hj)
