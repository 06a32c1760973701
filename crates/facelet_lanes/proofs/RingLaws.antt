-- Laws of rings: a move brings each place of a lane to the same place of the lane that is its turn further.
use Prim.Native.Nat.{ℕ, zero, suc, ◌+◌, ◌-◌, ◌*◌, ◌/◌, ◌%◌, ◌<◌}
use mathlib.Core.Path.{◌≡◌, ap, sym, subst, ◌∙◌}
use mathlib.Core.Bool.{true, false}
use native.Mathlib.Omega.{arith}
use native.Mathlib.Nat.{add-zero}
use lib.ListN.{get_or}
use Rattle.generic_cube.specs.Inner.{Sized}
use Rattle.ground.specs.Choice.{pick}
use Rattle.generic_cube.specs.declared.Move.{Move}
use Rattle.generic_cube.specs.Sizes.{stickers}
use Rattle.sticker.specs.Place.{Slot, nth_face, place_of, flat, unflat, place, index}
use Rattle.sticker.proofs.PlaceLaws.{nth_num, unflat-flat, slot-place, index-place, flat_below}
use Rattle.geometric_moves.specs.Turn.{toward, rotate, quarter_of, turn_of, kind_face, takes, turned, target, source}
use Rattle.generic_cube.specs.Code.{with_turn}
use Rattle.geometric_moves.proofs.TurnLaws.{target-add, target_none, takes-turned}
use Rattle.geometric_moves.proofs.RotationLaws.{turn_one}
use Rattle.facelet_lanes.specs.InnerLanes.{ring_faces, place_on, ring_lane}
use Rattle.facelet_lanes.proofs.LaneLaws.{spots, ring_face_lem, ring_edge, spot_below, spot_is}
use Rattle.facelet_lanes.proofs.EdgeLaws.{slot_at, rotate_edge, lane_face, lane_edge, after, ring_meets}

-- the entry of lane k, counted around the ring
abbrev pub lane_entry : ℕ → ℕ → ℕ
lane_entry ring k = 4 * ring + k % 4

-- column q of line p of lane k: its slot and its index
abbrev pub ring_slot : ℕ → ℕ → ℕ → ℕ → ℕ → Slot
ring_slot n ring p q k = slot_at n (lane_face (lane_entry ring k)) (lane_edge (lane_entry ring k)) p q

abbrev pub ring_place : ℕ → ℕ → ℕ → ℕ → ℕ → ℕ
ring_place n ring p q k = place_on (ring_lane n ring k) p q

-- a size, a ring, a line and a column
pub record Cell (n ring p q : ℕ) : Type 0 where
  pub sized : Sized n
  pub ring_is : ring < 18
  pub line : p < n
  pub column : q < n

module _ {n ring p q : ℕ} (c : Cell n ring p q) where
  entry_below : (k : ℕ) → lane_entry ring k < 72
  entry_below k = omega (arith, c.ring_is)

  pub ring_flat : (k : ℕ) → ring_place n ring p q k ≡ flat n (ring_slot n ring p q k)
  unfolding ring_lane
  ring_flat k =
      let i = entry_below k in
      (spot_is n _ _ p q c.sized (ring_face_lem _ i) (ring_edge _ i) c.line c.column).is
      ∙ ap (λ x. (x * n + get_or (spots n p q) (lane_edge (lane_entry ring k)) 0) * n + get_or (spots n p q) (lane_edge (lane_entry ring k) + 1) 0)
      (sym (nth_num (get_or ring_faces (lane_entry ring k) 0) (ring_face_lem _ i)))

  ring_col : (k : ℕ) → (ring_slot n ring p q k).col < n
  ring_col k = spot_below n p q (lane_edge (lane_entry ring k) + 1) c.line c.column

  ring_row : (k : ℕ) → (ring_slot n ring p q k).row < n
  ring_row k = spot_below n p q (lane_edge (lane_entry ring k)) c.line c.column

  pub ring_below : (k : ℕ) → ring_place n ring p q k < stickers n
  ring_below k = subst (λ (x : ℕ). x < stickers n) (sym (ring_flat k)) (flat_below n (ring_slot n ring p q k) (ring_col k) (ring_row k))

  pub ring_slot_lem : (k : ℕ) → unflat n (ring_place n ring p q k) ≡ ring_slot n ring p q k
  ring_slot_lem k = ap (unflat n) (ring_flat k) ∙ unflat-flat n (ring_slot n ring p q k) (ring_col k) (ring_row k)

  -- a quarter turn about the ring's face, of all stickers
  ring_rotate : (k : ℕ) → rotate n (quarter_of (nth_face (ring / 3))) (place_of n (ring_slot n ring p q k)) ≡ place_of n (ring_slot n ring p q (k + 1))
  ring_rotate k =
      let i = entry_below k in
      let a : lane_entry ring k / 12 ≡ ring / 3 = omega (arith, c.ring_is) in
      let b : after (lane_entry ring k) ≡ lane_entry ring (k + 1) = omega (arith, c.ring_is) in
      let j : after (lane_entry ring k) < 72 = omega (arith, c.ring_is) in
      ap (λ x. rotate n (quarter_of (nth_face x)) (place_of n (ring_slot n ring p q k))) (sym a)
      ∙ rotate_edge n (quarter_of (nth_face (lane_entry ring k / 12))) _ _ _ _ p q (ring_edge _ i) (ring_edge _ j) c.line c.column (ring_meets _ i)
      ∙ ap (λ x. place_of n (slot_at n (lane_face x) (lane_edge x) p q)) b

  -- a move that takes the places of the cell
  module _ (m : Move) (face : nth_face (ring / 3) ≡ kind_face m.kind)
      (inside : (k : ℕ) → takes n m (toward n (place_of n (ring_slot n ring p q k)) (kind_face m.kind)) ≡ true) where
    quarter : (k : ℕ) → target n (with_turn m 1) (ring_place n ring p q k) ≡ ring_place n ring p q (k + 1)
    unfolding target
    quarter k =
        ap (λ s. index n (turned n (with_turn m 1) (place_of n s))) (ring_slot_lem k)
        ∙ ap (λ b. index n (pick b (rotate n (turn_of 1 (quarter_of (kind_face m.kind))) (place_of n (ring_slot n ring p q k))) (place_of n (ring_slot n ring p q k)))) (takes-turned n m 1 _ ∙ inside k)
        ∙ ap (λ r. index n (rotate n r (place_of n (ring_slot n ring p q k)))) (turn_one (quarter_of (kind_face m.kind)))
        ∙ ap (λ f. index n (rotate n (quarter_of f) (place_of n (ring_slot n ring p q k)))) (sym face)
        ∙ ap (index n) (ring_rotate k)
        ∙ ap (flat n) (slot-place n (ring_slot n ring p q (k + 1)) (ring_col (k + 1)) (ring_row (k + 1)))
        ∙ sym (ring_flat (k + 1))

    pub turn_further : (t k : ℕ) → target n (with_turn m t) (ring_place n ring p q k) ≡ ring_place n ring p q (k + t)
    turn_further zero k = target_none n m _ c.sized.some (ring_below k) ∙ ap (ring_place n ring p q) (sym (add-zero k))
    turn_further (suc t) k =
        let e : t + 1 ≡ suc t = omega arith in
        let d : k + t + 1 ≡ k + suc t = omega arith in
        sym (target-add n m t 1 (suc t) _ c.sized.some (ap (λ x. x % 4) e))
        ∙ ap (target n (with_turn m 1)) (turn_further t k) ∙ quarter (k + t) ∙ ap (ring_place n ring p q) d

    -- so it came from the lane that is as many before
    pub came_from : (k : ℕ) → source n m (ring_place n ring p q k) ≡ ring_place n ring p q (k + (4 - m.turn))
    unfolding source
    came_from k = turn_further (4 - m.turn) k

-- a place that the move does not take stays
pub stays : (n : ℕ) (m : Move) (j : ℕ) → 0 < n → j < stickers n
    → takes n m (toward n (place n j) (kind_face m.kind)) ≡ false → source n m j ≡ j
unfolding source target
stays n m j h hj e =
    ap (λ b. index n (pick b (rotate n (turn_of (4 - m.turn) (quarter_of (kind_face m.kind))) (place n j)) (place n j))) (takes-turned n m (4 - m.turn) _ ∙ e) ∙ index-place n j h hj
