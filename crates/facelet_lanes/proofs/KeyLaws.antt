-- Keys of rings: from the edge at which a place's lane starts follow its line and its column, and from these the order of the cells.
use Prim.Native.Nat.{ℕ, zero, suc, ◌+◌, ◌-◌, ◌*◌, ◌/◌, ◌%◌, ◌<◌, ◌≤◌}
use mathlib.Core.Path.{◌≡◌, refl, ap, sym, ◌∙◌}
use mathlib.Core.List.{[], ◌∷◌}
use native.Mathlib.Omega.{arith}
use native.Mathlib.Nat.{mul-le-mul_right}
use lib.ListN.{get_or}
use Rattle.generic_cube.specs.Inner.{Sized}
use Rattle.ground.proofs.ChoiceLaws.{less_cases}
use Rattle.generic_cube.specs.Sizes.{stickers}
use Rattle.sticker.specs.declared.Face.{Face}
use Rattle.sticker.specs.Place.{Slot, flat, unflat}
use Rattle.sticker.proofs.PlaceLaws.{Real, slot_eq, flat-unflat, unflat_real, high_digit, low_digit, digits_below}
use Rattle.facelet_lanes.proofs.LaneLaws.{spots, ring_edge}
use Rattle.facelet_lanes.proofs.EdgeLaws.{lane_face, lane_edge}
use Rattle.facelet_lanes.proofs.RingLaws.{lane_entry, ring_slot, ring_place, Cell, ring_flat, ring_slot_lem}
use Rattle.facelet_lanes.proofs.CycleLaws.{Around, CellKey}

-- the line and the column of a row and a column, as they are counted from an edge; no edge, no line
abbrev pub depth : ℕ → ℕ → ℕ → ℕ → ℕ
depth n row col e = get_or (row ∷ (n - 1 - col) ∷ (n - 1 - row) ∷ col ∷ []) e n

abbrev pub along : ℕ → ℕ → ℕ → ℕ → ℕ
along n row col e = get_or (col ∷ row ∷ (n - 1 - col) ∷ (n - 1 - row) ∷ []) e 0

pub depth_at : (n p q e : ℕ) → e < 4 → p < n → q < n → depth n (get_or (spots n p q) e 0) (get_or (spots n p q) (e + 1) 0) e ≡ p
depth_at n p q zero he hp hq = refl
depth_at n p q (suc zero) he hp hq = omega arith
depth_at n p q (suc (suc zero)) he hp hq = omega arith
depth_at n p q (suc (suc (suc zero))) he hp hq = refl
depth_at n p q (suc (suc (suc (suc e)))) he hp hq = absurd (omega arith)

pub along_at : (n p q e : ℕ) → e < 4 → p < n → q < n → along n (get_or (spots n p q) e 0) (get_or (spots n p q) (e + 1) 0) e ≡ q
along_at n p q zero he hp hq = refl
along_at n p q (suc zero) he hp hq = refl
along_at n p q (suc (suc zero)) he hp hq = omega arith
along_at n p q (suc (suc (suc zero))) he hp hq = omega arith
along_at n p q (suc (suc (suc (suc e)))) he hp hq = absurd (omega arith)

pub row_back : (n r c e : ℕ) → e < 4 → r < n → c < n → get_or (spots n (depth n r c e) (along n r c e)) e 0 ≡ r
row_back n r c zero he hr hc = refl
row_back n r c (suc zero) he hr hc = refl
row_back n r c (suc (suc zero)) he hr hc = omega arith
row_back n r c (suc (suc (suc zero))) he hr hc = omega arith
row_back n r c (suc (suc (suc (suc e)))) he hr hc = absurd (omega arith)

pub col_back : (n r c e : ℕ) → e < 4 → r < n → c < n → get_or (spots n (depth n r c e) (along n r c e)) (e + 1) 0 ≡ c
col_back n r c zero he hr hc = refl
col_back n r c (suc zero) he hr hc = omega arith
col_back n r c (suc (suc zero)) he hr hc = omega arith
col_back n r c (suc (suc (suc zero))) he hr hc = refl
col_back n r c (suc (suc (suc (suc e)))) he hr hc = absurd (omega arith)

pub depth_none : (n r c e : ℕ) → 4 ≤ e → depth n r c e ≡ n
depth_none n r c zero h = absurd (omega arith)
depth_none n r c (suc zero) h = absurd (omega arith)
depth_none n r c (suc (suc zero)) h = absurd (omega arith)
depth_none n r c (suc (suc (suc zero))) h = absurd (omega arith)
depth_none n r c (suc (suc (suc (suc e)))) h = refl

pub depth_below : (n r c e : ℕ) → e < 4 → r < n → c < n → depth n r c e < n
depth_below n r c zero he hr hc = hr
depth_below n r c (suc zero) he hr hc = omega arith
depth_below n r c (suc (suc zero)) he hr hc = omega arith
depth_below n r c (suc (suc (suc zero))) he hr hc = hc
depth_below n r c (suc (suc (suc (suc e)))) he hr hc = absurd (omega arith)

pub along_below : (n r c e : ℕ) → r < n → c < n → along n r c e < n
along_below n r c zero hr hc = hc
along_below n r c (suc zero) hr hc = hr
along_below n r c (suc (suc zero)) hr hc = omega arith
along_below n r c (suc (suc (suc zero))) hr hc = omega arith
along_below n r c (suc (suc (suc (suc e)))) hr hc = omega arith

-- the key of a slot, whose lane's edge a function tells
abbrev pub slot_key : ℕ → ℕ → (Slot → ℕ) → Slot → ℕ
slot_key n count E s = depth n s.row s.col (E s) * count + along n s.row s.col (E s)

abbrev pub place_key : ℕ → ℕ → (Slot → ℕ) → ℕ → ℕ
place_key n count E j = slot_key n count E (unflat n j)

-- no edge: the key is past every cell
pub key_none : (n lines count : ℕ) (E : Slot → ℕ) (s : Slot) → lines ≤ n → 4 ≤ E s → lines * count ≤ slot_key n count E s
key_none n lines count E s hl he =
    let e = ap (λ x. x * count) (depth_none n s.row s.col (E s) he) in
    omega (arith, mul-le-mul_right count hl)

-- a lane of a ring with a face and an edge
pub record Laned (ring : ℕ) (g : Face) (e : ℕ) : Type 0 where
  pub lane : ℕ
  pub small : lane < 4
  pub face : lane_face (lane_entry ring lane) ≡ g
  pub edge : lane_edge (lane_entry ring lane) ≡ e

-- what a function that tells the edge of a ring's slots has to keep
pub record Edging (n ring lines count : ℕ) (E : Slot → ℕ) : Type 0 where
  pub sized : Sized n
  pub ring_is : ring < 18
  pub deep : lines ≤ n
  pub wide : count ≤ n
  pub of_lane : (p q k : ℕ) → p < lines → q < count → E (ring_slot n ring p q k) ≡ lane_edge (lane_entry ring k)
  pub lane_of : (s : Slot) → Real n s → E s < 4 → Laned ring s.face (E s)
  pub narrow : (s : Slot) → Real n s → E s < 4 → along n s.row s.col (E s) < count

pub edge_cell_key : {n ring lines count : ℕ} (E : Slot → ℕ) → Edging n ring lines count E → CellKey n ring lines count (place_key n count E)
edge_cell_key {n} {ring} {lines} {count} E g =
    record { sized = g.sized; ring_is = g.ring_is; deep = g.deep; wide = g.wide; of_place = of; place_of = place }
  where
    cell : (p q : ℕ) → p < lines → q < count → Cell n ring p q
    cell p q hp hq =
        record { sized = g.sized; ring_is = g.ring_is; line = omega (arith, g.deep); column = omega (arith, g.wide) }

    of : (p q k : ℕ) → p < lines → q < count → place_key n count E (ring_place n ring p q k) ≡ p * count + q
    of p q k hp hq =
        let c = cell p q hp hq in
        let s = ring_slot n ring p q k in
        let e = lane_edge (lane_entry ring k) in
        let h : e < 4 = ring_edge _ (omega (arith, g.ring_is)) in
        ap (slot_key n count E) (ring_slot_lem c k)
        ∙ ap (λ x. depth n s.row s.col x * count + along n s.row s.col x) (g.of_lane p q k hp hq)
        ∙ ap (λ x. x * count + along n s.row s.col e) (depth_at n p q e h c.line c.column)
        ∙ ap (λ x. p * count + x) (along_at n p q e h c.line c.column)

    place : (p q j : ℕ) → p < lines → q < count → j < stickers n → place_key n count E j ≡ p * count + q → Around n ring p q j
    place p q j hp hq hj d =
        less_cases (E s) 4 found (λ h. absurd (let a = key_none n lines count E s g.deep h in let b = digits_below count lines p q hp hq in omega arith))
      where
        s : Slot
        s = unflat n j

        real : Real n s
        real = unflat_real n j g.sized.some

        found : E s < 4 → Around n ring p q j
        found h =
            let l = g.lane_of s real h in
            let w = g.narrow s real h in
            let a : depth n s.row s.col (E s) ≡ p = sym (high_digit count (depth n s.row s.col (E s)) (along n s.row s.col (E s)) w) ∙ ap (λ x. x / count) d ∙ high_digit count p q hq in
            let b : along n s.row s.col (E s) ≡ q = sym (low_digit count (depth n s.row s.col (E s)) (along n s.row s.col (E s)) w) ∙ ap (λ x. x % count) d ∙ low_digit count p q hq in
            let rows : get_or (spots n p q) (lane_edge (lane_entry ring l.lane)) 0 ≡ s.row =
            (λ i. get_or (spots n (sym a i) (sym b i)) (l.edge i) 0) ∙ row_back n s.row s.col (E s) h real.row_ok real.col_ok in
            let cols : get_or (spots n p q) (lane_edge (lane_entry ring l.lane) + 1) 0 ≡ s.col =
            (λ i. get_or (spots n (sym a i) (sym b i)) (l.edge i + 1) 0) ∙ col_back n s.row s.col (E s) h real.row_ok real.col_ok in
            record {
              lane = l.lane;
              small = l.small;
              is = sym (flat-unflat n j g.sized.some hj) ∙ ap (flat n) (sym (slot_eq (ring_slot n ring p q l.lane) s l.face cols rows))
                  ∙ sym (ring_flat (cell p q hp hq) l.lane);
            }
