-- Laws of lanes: where their places are, that they are places of the cube, and what the loops over them keep true.
use Prim.Native.Nat.{ℕ, zero, suc, ◌+◌, ◌-◌, ◌*◌, ◌/◌, ◌<◌, ◌≤◌}
use mathlib.Core.Path.{◌≡◌, refl, ap, sym, subst, ◌∙◌}
use mathlib.Core.Bool.{Bool, true, false}
use mathlib.Core.List.{List, [], ◌∷◌}
use native.Mathlib.Omega.{arith}
use native.Mathlib.Numerals.{add-one}
use native.Mathlib.Nat.{add-mul, mul-le-mul, mul-le-mul_right, suc-mul}
use lib.Dec.{ltb, eqb}
use lib.ListN.{length, get_or, set, length-set}
use borrow.Author.Tests.{ltb-true}
use Rattle.generic_cube.specs.Inner.{Sized}
use Rattle.ground.proofs.ChoiceLaws.{any_below, tested}
use Rattle.generic_cube.specs.Sizes.{stickers}
use Rattle.sticker.proofs.PlaceLaws.{room, digits_below}
use Rattle.facelet_lanes.specs.declared.Lane.{Lane}
use Rattle.facelet_lanes.specs.declared.Ring.{Ring}
use Rattle.facelet_lanes.specs.InnerLanes.{ring_faces, ring_edges, corners, lane_of, ring_of, place_on, Spot, ring_lane, prior, cycled, line_cycled, ring_turned, face_turned, layers_turned, PlaceFits, LineFits, RingFits}

pub ring_face_lem : (i : ℕ) → i < 72 → get_or ring_faces i 0 < 6
unfolding ring_faces any_below
ring_face_lem i h = ltb-true _ _ (tested (λ k. ltb (get_or ring_faces k 0) 6) 72 refl i h)

pub ring_edge : (i : ℕ) → i < 72 → get_or ring_edges i 0 < 4
unfolding ring_edges any_below
ring_edge i h = ltb-true _ _ (tested (λ k. ltb (get_or ring_edges k 0) 4) 72 refl i h)

-- column q of line p of an edge: the number of its row at `edge`, of its column one place further
abbrev pub spots : ℕ → ℕ → ℕ → List ℕ
spots n p q = p ∷ q ∷ (n - 1 - p) ∷ (n - 1 - q) ∷ p ∷ []

-- the row and the column of a place are below n
pub spot_below : (n p q : ℕ) (e : ℕ) → p < n → q < n → get_or (spots n p q) e 0 < n
spot_below n p q zero hp hq = hp
spot_below n p q (suc zero) hp hq = hq
spot_below n p q (suc (suc zero)) hp hq = omega arith
spot_below n p q (suc (suc (suc zero))) hp hq = omega arith
spot_below n p q (suc (suc (suc (suc zero)))) hp hq = hp
spot_below n p q (suc (suc (suc (suc (suc e))))) hp hq = omega arith

-- the sizes of a lane's numbers
pub record LaneRoom (n face edge : ℕ) : Type 0 where
  pub some : 1 ≤ n
  pub square : n ≤ n * n
  pub area : n * n ≤ 10816
  pub line : face * n ≤ 624
  pub before : face * n * n + n * n ≤ stickers n
  pub all : stickers n ≤ 64896
  pub corner : get_or (corners n) edge 0 ≤ n * n

pub lane_room : (n face edge : ℕ) → Sized n → face < 6 → LaneRoom n face edge
lane_room n face edge z h =
    let a = mul-le-mul {n₁ = n} {m₁ = n} {n₂ = 104} {m₂ = 104} z.size z.size in
    let b = mul-le-mul_right {m = 1} {n = n} n z.some in
    let s = suc-mul face n in
    let d : face * n + n ≤ 6 * n = omega (arith, mul-le-mul_right n h) in
    let e = add-mul (face * n) n n in
    record {
      some = z.some;
      square = omega arith;
      area = a;
      line = omega (arith, z.size);
      before = omega (arith, mul-le-mul_right n d);
      all = room n z.size;
      corner = most edge (omega arith);
    }
  where
    most : (e : ℕ) → n ≤ n * n → get_or (corners n) e 0 ≤ n * n
    most zero k = omega arith
    most (suc zero) k = omega arith
    most (suc (suc zero)) k = omega arith
    most (suc (suc (suc zero))) k = omega arith
    most (suc (suc (suc (suc e)))) k = omega arith

-- a lane's place is found without a sum that is too large or a difference below 0, and is its row and column's
pub record SpotIs (n face edge p q : ℕ) : Type 0 where
  pub spot : Spot (lane_of n face edge) p q
  pub is : place_on (lane_of n face edge) p q ≡ (face * n + get_or (spots n p q) edge 0) * n + get_or (spots n p q) (edge + 1) 0

pub spot_is : (n face edge p q : ℕ) → Sized n → face < 6 → edge < 4 → p < n → q < n → SpotIs n face edge p q
spot_is n face edge p q z hf he hp hq = go edge he (lane_room n face edge z hf)
  where
    -- a line of the face, and as many lines from the end
    up : (x : ℕ) → x < n → x * n + n ≤ n * n
    up x h = omega (arith, mul-le-mul_right n h, suc-mul x n)

    down : (x : ℕ) → x < n → (n - 1 - x) * n + (x * n + n) ≡ n * n
    down x h =
        let e : n - 1 - x + suc x ≡ n = omega arith in
        omega (arith, add-mul (n - 1 - x) (suc x) n, suc-mul x n, ap (λ k. k * n) e)

    go : (e : ℕ) → e < 4 → LaneRoom n face edge → SpotIs n face e p q
    go zero h r =
        let a = add-mul (face * n) p n in
        let b = up p hp in
        record { spot = record { room = omega arith; back = omega arith }; is = omega arith }
    go (suc zero) h r =
        let a = add-mul (face * n) q n in
        let b = up q hq in
        record { spot = record { room = omega arith; back = omega arith }; is = omega arith }
    go (suc (suc zero)) h r =
        let a = add-mul (face * n) (n - 1 - p) n in
        let b = down p hp in
        record { spot = record { room = omega arith; back = omega arith }; is = omega arith }
    go (suc (suc (suc zero))) h r =
        let a = add-mul (face * n) (n - 1 - q) n in
        let b = down q hq in
        record { spot = record { room = omega arith; back = omega arith }; is = omega arith }
    go (suc (suc (suc (suc e)))) h r = absurd (omega arith)

-- so it is a place of the cube
pub lane_place_fits : (n ring k p q : ℕ) → Sized n → ring < 18 → k < 4 → p < n → q < n
    → PlaceFits (lane_of n (get_or ring_faces (4 * ring + k) 0) (get_or ring_edges (4 * ring + k) 0)) p q (stickers n)
lane_place_fits n ring k p q z hr hk hp hq =
    let i : 4 * ring + k < 72 = omega arith in
    let g = get_or ring_faces (4 * ring + k) 0 in
    let e = get_or ring_edges (4 * ring + k) 0 in
    let l = spot_is n g e p q z (ring_face_lem _ i) (ring_edge _ i) hp hq in
    let b = digits_below n (6 * n) (g * n + get_or (spots n p q) e 0) (get_or (spots n p q) (e + 1) 0)
    (digits_below n 6 g (get_or (spots n p q) e 0) (ring_face_lem _ i) (spot_below n p q e hp hq)) (spot_below n p q (e + 1) hp hq) in
    record { spot = l.spot; within = subst (λ (x : ℕ). x < stickers n) (sym l.is) b }

-- a line of a ring's lanes is a line of places of the cube
pub line_fits : {n ring first lines count long p : ℕ} {r : Ring} → RingFits n ring first lines count long → r ≡ ring_of n ring → p < lines
    → LineFits (first + p) count r long
unfolding ring_lane
line_fits {n} {ring} {first} {lines} {count} {long} {p} {r} f e h =
    record {
      few = omega (arith, f.wide, f.sized.size);
      cells = λ q k. record {
        at_a = fit 0 q k (omega arith) (ap (λ y. y.a) e);
        at_b = fit 1 q k (omega arith) (ap (λ y. y.b) e);
        at_c = fit 2 q k (omega arith) (ap (λ y. y.c) e);
        at_d = fit 3 q k (omega arith) (ap (λ y. y.d) e);
      };
    }
  where
    fit : (k : ℕ) (q : ℕ) → q < count → k < 4 → {x : Lane} → x ≡ lane_of n (get_or ring_faces (4 * ring + k) 0) (get_or ring_edges (4 * ring + k) 0)
        → PlaceFits x (first + p) q long
    fit k q hq hk {x} e =
        subst (λ (y : Lane). PlaceFits y (first + p) q long) (sym e)
        (subst (λ (m : ℕ). PlaceFits (lane_of n (get_or ring_faces (4 * ring + k) 0) (get_or ring_edges (4 * ring + k) 0)) (first + p) q m) (sym f.whole)
        (lane_place_fits n ring k (first + p) q f.sized f.ring_is hk (omega (arith, f.deep)) (omega (arith, f.wide))))

-- lengths stay
pub length-cycled : (t i j k e : ℕ) (l : List ℕ) → length (cycled t i j k e l) ≡ length l
unfolding cycled
length-cycled t i j k e l = simp length-set

pub length_line : (t p : ℕ) (r : Ring) (q : ℕ) (l : List ℕ) → length (line_cycled t p r q l) ≡ length l
unfolding line_cycled
length_line t p r zero l = refl
length_line t p r (suc q) l = length-cycled t _ _ _ _ _ ∙ length_line t p r q l

pub length_ring : (n t ring m first p : ℕ) (l : List ℕ) → length (ring_turned n t ring m first p l) ≡ length l
unfolding ring_turned
length_ring n t ring m first zero l = refl
length_ring n t ring m first (suc p) l = length_line t (first + p) _ m _ ∙ length_ring n t ring m first p l

pub length_face : (n t ring : ℕ) (turns : Bool) (l : List ℕ) → length (face_turned n t ring turns l) ≡ length l
length_face n t ring true l = length_ring n t ring (n / 2) 0 (n - n / 2) l
length_face n t ring false l = refl

-- one place more of a line
pub record LineDone (t p count : ℕ) (r : Ring) (l₀ l : List ℕ) (q : ℕ) : Type 0 where
  pub most : q ≤ count
  pub done : l ≡ line_cycled t p r q l₀

module _ {t p count : ℕ} {r : Ring} {l₀ : List ℕ} where
  pub line_none : LineDone t p count r l₀ l₀ 0
  unfolding line_cycled
  line_none = record { most = omega arith; done = refl }

  pub line_more : {l : List ℕ} {q i j k e v₁ v₂ v₃ v₄ : ℕ} → LineDone t p count r l₀ l q → q < count
      → i ≡ place_on r.a p q → j ≡ place_on r.b p q → k ≡ place_on r.c p q → e ≡ place_on r.d p q
      → v₁ ≡ prior t (get_or l e 0) (get_or l k 0) (get_or l j 0) → v₂ ≡ prior t (get_or l i 0) (get_or l e 0) (get_or l k 0)
      → v₃ ≡ prior t (get_or l j 0) (get_or l i 0) (get_or l e 0) → v₄ ≡ prior t (get_or l k 0) (get_or l j 0) (get_or l i 0)
      → LineDone t p count r l₀ (set (set (set (set l i v₁) j v₂) k v₃) e v₄) (q + 1)
  unfolding line_cycled cycled
  line_more {l} {q} {i} {j} {k} {e} {v₁} {v₂} {v₃} {v₄} d h ei ej ek ee e₁ e₂ e₃ e₄ =
      record { most = omega (arith, d.most); done = rw add-one (step ∙ places ∙ ap (cycled t (place_on r.a p q) (place_on r.b p q) (place_on r.c p q) (place_on r.d p q)) d.done) }
    where
      step : set (set (set (set l i v₁) j v₂) k v₃) e v₄ ≡ cycled t i j k e l
      step = λ x. set (set (set (set l i (e₁ x)) j (e₂ x)) k (e₃ x)) e (e₄ x)

      places : cycled t i j k e l ≡ cycled t (place_on r.a p q) (place_on r.b p q) (place_on r.c p q) (place_on r.d p q) l
      places = λ x. cycled t (ei x) (ej x) (ek x) (ee x) l

-- one line more of a ring
pub record RingDone (n t ring count first lines : ℕ) (l₀ l : List ℕ) (p : ℕ) : Type 0 where
  pub most : p ≤ lines
  pub done : l ≡ ring_turned n t ring count first p l₀

module _ {n t ring count first lines : ℕ} {l₀ : List ℕ} where
  pub ring_none : RingDone n t ring count first lines l₀ l₀ 0
  unfolding ring_turned
  ring_none = record { most = omega arith; done = refl }

  pub ring_more : {l l' : List ℕ} {p : ℕ} {r : Ring} → RingDone n t ring count first lines l₀ l p → p < lines → r ≡ ring_of n ring
      → l' ≡ line_cycled t (first + p) r count l → RingDone n t ring count first lines l₀ l' (p + 1)
  unfolding ring_turned
  ring_more {l} {l'} {p} {r} d h s e =
      record { most = omega (arith, d.most); done = rw add-one (e ∙ (λ i. line_cycled t (first + p) (s i) count (d.done i))) }

-- the code's steps: the rings of layers
pub layers_done : (n t face first count : ℕ) (l : List ℕ) {l₁ l₂ l₃ : List ℕ} → l₁ ≡ ring_turned n t (3 * face) n first count l
    → l₂ ≡ face_turned n t (3 * face + 1) (eqb first 0) l₁ → l₃ ≡ face_turned n t (3 * face + 2) (eqb (first + count) n) l₂
    → l₃ ≡ layers_turned n t face first count l
unfolding layers_turned
layers_done n t face first count l a b c =
    c ∙ ap (face_turned n t (3 * face + 2) (eqb (first + count) n)) (b ∙ ap (face_turned n t (3 * face + 1) (eqb first 0)) a)
