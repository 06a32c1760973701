-- Laws of the edges of faces: where a quarter turn brings the places that lie along an edge, for every size.
use Prim.Native.Nat.{ℕ, zero, suc, ◌+◌, ◌-◌, ◌*◌, ◌/◌, ◌%◌, ◌<◌}
use mathlib.Core.Path.{◌≡◌, refl, ap, ◌∙◌}
use native.Mathlib.Omega.{arith}
use lib.ListN.{get_or}
use Rattle.ground.proofs.ChoiceLaws.{any_below, tested}
use Rattle.sticker.specs.declared.Face.{Face}
use Rattle.sticker.specs.declared.Face.TheVariants.{U, R, F, D, L, B}
use Rattle.sticker.specs.Place.{Pos, Slot, top, mid, nth_face, seat, place_of, InCube}
use Rattle.sticker.proofs.PlaceLaws.{pos_eq, sticker_in}
use Rattle.geometric_moves.specs.declared.Rotation.{Rotation}
use Rattle.geometric_moves.specs.Turn.{toward, rotate, opposite, facing, same_face, quarter_of, inverse_rot, whither}
use Rattle.geometric_moves.proofs.RotationLaws.{toward-rotate, neg-toward}
use Rattle.geometric_moves.proofs.TurnLaws.{seat-toward, toward_within}
use Rattle.geometric_moves.proofs.FaceLaws.{same_face_lem}
use Rattle.facelet_lanes.specs.InnerLanes.{ring_faces, ring_edges}
use Rattle.facelet_lanes.proofs.LaneLaws.{spots, spot_below}

-- the half axes along which a face's columns and rows rise
abbrev pub col_axis : Face → Face
col_axis U = R
col_axis R = B
col_axis F = R
col_axis D = R
col_axis L = F
col_axis B = L

abbrev pub row_axis : Face → Face
row_axis U = F
row_axis R = D
row_axis F = D
row_axis D = B
row_axis L = D
row_axis B = D

-- the face beyond each edge, in the edges' order, and the first again
abbrev pub edge_of : Face → ℕ → Face
edge_of g zero = opposite (row_axis g)
edge_of g (suc zero) = col_axis g
edge_of g (suc (suc zero)) = row_axis g
edge_of g (suc (suc (suc zero))) = opposite (col_axis g)
edge_of g (suc (suc (suc (suc e)))) = opposite (row_axis g)

-- column q of line p of an edge
abbrev pub slot_at : ℕ → Face → ℕ → ℕ → ℕ → Slot
slot_at n g e p q = record { face = g; row = get_or (spots n p q) e 0; col = get_or (spots n p q) (e + 1) 0 }

abbrev pub edge_place : ℕ → Face → ℕ → ℕ → ℕ → Pos
edge_place n g e p q = place_of n (slot_at n g e p q)

pub edge_place_in : (n : ℕ) (g : Face) (e p q : ℕ) → p < n → q < n → InCube n (edge_place n g e p q)
edge_place_in n g e p q hp hq =
    sticker_in n _ (record { slot = slot_at n g e p q; real = record { col_ok = spot_below n p q (e + 1) hp hq; row_ok = spot_below n p q e hp hq }; here = refl })

col_along : (n : ℕ) (g : Face) (c r : ℕ) → c < n → r < n → toward n (seat n g (mid c) (mid r)) (col_axis g) ≡ mid c
col_along n U c r hc hr = refl
col_along n R c r hc hr = omega arith
col_along n F c r hc hr = refl
col_along n D c r hc hr = refl
col_along n L c r hc hr = refl
col_along n B c r hc hr = omega arith

row_along : (n : ℕ) (g : Face) (c r : ℕ) → c < n → r < n → toward n (seat n g (mid c) (mid r)) (row_axis g) ≡ mid r
row_along n U c r hc hr = refl
row_along n R c r hc hr = omega arith
row_along n F c r hc hr = omega arith
row_along n D c r hc hr = omega arith
row_along n L c r hc hr = omega arith
row_along n B c r hc hr = omega arith

-- a position is known from three of its coordinates
seated : (n : ℕ) (g : Face) (c r : ℕ) (p : Pos) → InCube n p → toward n p g ≡ top n → toward n p (col_axis g) ≡ mid c
    → toward n p (row_axis g) ≡ mid r → p ≡ seat n g (mid c) (mid r)
seated n U c r p h a b d = pos_eq _ _ (omega arith) (omega arith) (omega arith)
seated n R c r p h a b d = pos_eq _ _ (omega arith) (omega arith) (omega arith)
seated n F c r p h a b d = pos_eq _ _ (omega arith) (omega arith) (omega arith)
seated n D c r p h a b d = pos_eq _ _ (omega arith) (omega arith) (omega arith)
seated n L c r p h a b d = pos_eq _ _ (omega arith) (omega arith) (omega arith)
seated n B c r p h a b d = pos_eq _ _ (omega arith) (omega arith) (omega arith)

-- a position of face g, as it is seen from edge e
pub record Seen (n : ℕ) (x : Pos) (g : Face) (e p q : ℕ) : Type 0 where
  pub face : toward n x g ≡ top n
  pub edge : toward n x (edge_of g e) ≡ mid (n - 1 - p)
  pub next : toward n x (edge_of g (e + 1)) ≡ mid q

pub seen : (n : ℕ) (g : Face) (e p q : ℕ) → e < 4 → p < n → q < n → Seen n (edge_place n g e p q) g e p q
seen n g zero p q he hp hq =
    let c = col_along n g q p hq hp in
    let r = row_along n g q p hq hp in
    let a = neg-toward n _ (edge_place_in n g 0 p q hp hq) (row_axis g) in
    record { face = seat-toward n g q p; edge = omega arith; next = c }
seen n g (suc zero) p q he hp hq =
    let k : n - 1 - p < n = omega arith in
    record { face = seat-toward n g _ _; edge = col_along n g _ _ k hq; next = row_along n g _ _ k hq }
seen n g (suc (suc zero)) p q he hp hq =
    let k : n - 1 - p < n = omega arith in
    let m : n - 1 - q < n = omega arith in
    let c = col_along n g (n - 1 - q) (n - 1 - p) m k in
    let a = neg-toward n _ (edge_place_in n g 2 p q hp hq) (col_axis g) in
    record { face = seat-toward n g _ _; edge = row_along n g _ _ m k; next = omega arith }
seen n g (suc (suc (suc zero))) p q he hp hq =
    let m : n - 1 - q < n = omega arith in
    let c = col_along n g p (n - 1 - q) hp m in
    let r = row_along n g p (n - 1 - q) hp m in
    let a = neg-toward n _ (edge_place_in n g 3 p q hp hq) (col_axis g) in
    let b = neg-toward n _ (edge_place_in n g 3 p q hp hq) (row_axis g) in
    record { face = seat-toward n g _ _; edge = omega arith; next = omega arith }
seen n g (suc (suc (suc (suc e)))) p q he hp hq = absurd (omega arith)

pub unseen : (n : ℕ) (g : Face) (e p q : ℕ) (x : Pos) → e < 4 → p < n → q < n → InCube n x → Seen n x g e p q → x ≡ edge_place n g e p q
unseen n g zero p q x he hp hq h s =
    let a = neg-toward n x h (row_axis g) in
    let w = toward_within n x h (row_axis g) in
    let d = s.edge in
    seated n g q p x h s.face s.next (omega arith)
unseen n g (suc zero) p q x he hp hq h s = seated n g _ _ x h s.face s.edge s.next
unseen n g (suc (suc zero)) p q x he hp hq h s =
    let a = neg-toward n x h (col_axis g) in
    let w = toward_within n x h (col_axis g) in
    let d = s.next in
    seated n g _ _ x h s.face (omega arith) s.edge
unseen n g (suc (suc (suc zero))) p q x he hp hq h s =
    let a = neg-toward n x h (col_axis g) in
    let b = neg-toward n x h (row_axis g) in
    let v = toward_within n x h (col_axis g) in
    let w = toward_within n x h (row_axis g) in
    let d = s.edge in
    let k = s.next in
    seated n g _ _ x h s.face (omega arith) (omega arith)
unseen n g (suc (suc (suc (suc e)))) p q x he hp hq h s = absurd (omega arith)

-- a rotation that brings an edge of a face to an edge of a face
pub record Meets (r : Rotation) (g : Face) (e : ℕ) (g' : Face) (e' : ℕ) : Type 0 where
  pub face : facing r g' ≡ g
  pub edge : facing r (edge_of g' e') ≡ edge_of g e
  pub next : facing r (edge_of g' (e' + 1)) ≡ edge_of g (e + 1)

pub rotate_edge : (n : ℕ) (r : Rotation) (g : Face) (e : ℕ) (g' : Face) (e' p q : ℕ) → e < 4 → e' < 4 → p < n → q < n → Meets r g e g' e'
    → rotate n r (edge_place n g e p q) ≡ edge_place n g' e' p q
rotate_edge n r g e g' e' p q he he' hp hq m =
    unseen n g' e' p q (rotate n r x) he' hp hq
    (record { x_in = toward_within n x h r.x; y_in = toward_within n x h r.y; z_in = toward_within n x h r.z })
    (record {
      face = toward-rotate n x h r g' ∙ ap (toward n x) m.face ∙ s.face;
      edge = toward-rotate n x h r (edge_of g' e') ∙ ap (toward n x) m.edge ∙ s.edge;
      next = toward-rotate n x h r (edge_of g' (e' + 1)) ∙ ap (toward n x) m.next ∙ s.next;
    })
  where
    x : Pos
    x = edge_place n g e p q

    h : InCube n x
    h = edge_place_in n g e p q hp hq

    s : Seen n x g e p q
    s = seen n g e p q he hp hq

-- the table's lanes: the face and the edge at entry i, and at the entry that follows in its ring
abbrev pub lane_face : ℕ → Face
lane_face i = nth_face (get_or ring_faces i 0)

abbrev pub lane_edge : ℕ → ℕ
lane_edge i = get_or ring_edges i 0

abbrev pub after : ℕ → ℕ
after i = 4 * (i / 4) + (i + 1) % 4

abbrev turn_at : ℕ → Rotation
turn_at i = quarter_of (nth_face (i / 12))

-- a quarter turn brings each lane to the next of its ring
pub ring_meets : (i : ℕ) → i < 72 → Meets (quarter_of (nth_face (i / 12))) (lane_face i) (lane_edge i) (lane_face (after i)) (lane_edge (after i))
unfolding ring_faces ring_edges any_below quarter_of inverse_rot whither same_face
ring_meets i h =
    record {
      face = same_face_lem _ _ (tested (λ k. same_face (facing (turn_at k) (lane_face (after k))) (lane_face k)) 72 refl i h);
      edge = same_face_lem _ _ (tested (λ k. same_face (facing (turn_at k) (edge_of (lane_face (after k)) (lane_edge (after k)))) (edge_of (lane_face k) (lane_edge k))) 72 refl i h);
      next = same_face_lem _ _ (tested (λ k. same_face (facing (turn_at k) (edge_of (lane_face (after k)) (lane_edge (after k) + 1))) (edge_of (lane_face k) (lane_edge k + 1))) 72 refl i h);
    }
