-- The rings of a face, and the edges from which their places are counted: the sides to a width, and a face in quarters.
use Prim.Native.Nat.{ℕ, zero, suc, ◌+◌, ◌-◌, ◌*◌, ◌/◌, ◌%◌, ◌<◌, ◌≤◌}
use mathlib.Core.Path.{◌≡◌, refl, ap, sym, subst, ◌∙◌}
use mathlib.Core.Bool.{Bool, true, false, not, ◌||◌}
use native.Mathlib.Omega.{arith}
use lib.Dec.{ltb, eqb}
use lib.ListN.{get_or}
use borrow.Author.Tests.{lt-ltb, le-ltb, eqb-true, eq-eqb, ne_eqb, ltb-true, not-true}
use Rattle.generic_cube.specs.Inner.{Sized}
use Rattle.ground.specs.Choice.{pick}
use Rattle.ground.proofs.ChoiceLaws.{any_below, bool_cases, tested, less_cases}
use Rattle.sticker.specs.declared.Face.{Face}
use Rattle.sticker.specs.Place.{Slot, num_of, nth_face}
use Rattle.sticker.proofs.PlaceLaws.{Real, num_nth, number_below}
use Rattle.geometric_moves.specs.Turn.{opposite, same_face}
use Rattle.geometric_moves.proofs.FaceLaws.{same_face_lem, same_self, if_then, if_not, all_faces_lem, all_pairs}
use Rattle.facelet_lanes.specs.InnerLanes.{ring_faces, ring_edges}
use Rattle.facelet_lanes.proofs.LaneLaws.{spots, ring_edge}
use Rattle.facelet_lanes.proofs.EdgeLaws.{edge_of, lane_face, lane_edge}
use Rattle.facelet_lanes.proofs.RingLaws.{lane_entry, ring_slot}
use Rattle.facelet_lanes.proofs.KeyLaws.{depth, along, along_below, Laned, Edging}

-- the edge of face g beyond which f lies, 4 where none does
unfoldable pub edge_to : Face → Face → ℕ
edge_to f g =
    pick (same_face (edge_of g 0) f) 0 (pick (same_face (edge_of g 1) f) 1 (pick (same_face (edge_of g 2) f) 2 (pick (same_face (edge_of g 3) f) 3 4)))

-- the lane of f's sides that lies on g
abbrev lane_to : Face → Face → ℕ
lane_to f g =
    pick (same_face (lane_face (12 * num_of f)) g) 0 (pick (same_face (lane_face (12 * num_of f + 1)) g) 1 (pick (same_face (lane_face (12 * num_of f + 2)) g) 2 3))

lane_small : (a b c : Bool) → pick a 0 (pick b 1 (pick c 2 3)) < 4
lane_small true b c = omega arith
lane_small false true c = omega arith
lane_small false false true = omega arith
lane_small false false false = omega arith

module _ (f g : Face) where
  pub edge_beyond : edge_to f g < 4 → edge_of g (edge_to f g) ≡ f
  unfolding any_below same_face edge_to
  edge_beyond h =
      same_face_lem _ _ (if_then (all_pairs (λ x y. not (ltb (edge_to x y) 4) || same_face (edge_of y (edge_to x y)) x) refl f g) (lt-ltb _ _ h))

  pub no_edge : 4 ≤ edge_to f g → (same_face g f || same_face g (opposite f)) ≡ true
  unfolding any_below same_face edge_to
  no_edge h =
      if_not (all_pairs (λ x y. ltb (edge_to x y) 4 || (same_face y x || same_face y (opposite x))) refl f g) (le-ltb _ _ h)

  side_lane : edge_to f g < 4 → Laned (3 * num_of f) g (edge_to f g)
  unfolding any_below same_face edge_to ring_faces ring_edges
  side_lane h =
      let t = lt-ltb _ _ h in
      let k : lane_to f g < 4 = lane_small (same_face (lane_face (12 * num_of f)) g) (same_face (lane_face (12 * num_of f + 1)) g) (same_face (lane_face (12 * num_of f + 2)) g) in
      let i : lane_entry (3 * num_of f) (lane_to f g) ≡ 12 * num_of f + lane_to f g = omega arith in
      record {
        lane = lane_to f g;
        small = k;
        face = ap lane_face i ∙ same_face_lem _ _ (if_then (all_pairs (λ x y. not (ltb (edge_to x y) 4) || same_face (lane_face (12 * num_of x + lane_to x y)) y) refl f g) t);
        edge = ap lane_edge i ∙ eqb-true _ _ (if_then (all_pairs (λ x y. not (ltb (edge_to x y) 4) || eqb (lane_edge (12 * num_of x + lane_to x y)) (edge_to x y)) refl f g) t);
      }

pub edge_self : (f : Face) → 4 ≤ edge_to f f
unfolding any_below same_face edge_to
edge_self f = ltb-true _ _ (all_faces_lem (λ x. ltb 3 (edge_to x x)) refl f)

pub edge_opposite : (f : Face) → 4 ≤ edge_to f (opposite f)
unfolding any_below same_face edge_to
edge_opposite f = ltb-true _ _ (all_faces_lem (λ x. ltb 3 (edge_to x (opposite x))) refl f)

pub opposite_other : (f : Face) → same_face (opposite f) f ≡ false
unfolding any_below same_face
opposite_other f = not-true _ (all_faces_lem (λ x. not (same_face (opposite x) x)) refl f)

-- the lanes of a face's sides start at it
abbrev side_test : ℕ → Bool
side_test i = not (eqb (i / 4 % 3) 0) || eqb (edge_to (nth_face (i / 12)) (lane_face i)) (lane_edge i)

pub side_edge : (f : Face) (k : ℕ) → edge_to f (lane_face (lane_entry (3 * num_of f) k)) ≡ lane_edge (lane_entry (3 * num_of f) k)
unfolding any_below same_face edge_to ring_faces ring_edges
side_edge f k =
    let a = number_below f _ refl in
    let i : lane_entry (3 * num_of f) k < 72 = omega arith in
    let s : lane_entry (3 * num_of f) k / 4 % 3 ≡ 0 = omega arith in
    let x : lane_entry (3 * num_of f) k / 12 ≡ num_of f = omega arith in
    ap (λ y. edge_to y (lane_face (lane_entry (3 * num_of f) k))) (sym (ap nth_face x ∙ num_nth f))
    ∙ eqb-true _ _ (if_then (tested side_test 72 refl (lane_entry (3 * num_of f) k) i) (eq-eqb _ _ s))

pub sides : {n w : ℕ} (f : Face) → Sized n → w ≤ n → Edging n (3 * num_of f) w n (λ s. edge_to f s.face)
sides {n} {w} f z h =
    record {
      sized = z;
      ring_is = omega (arith, number_below f _ refl);
      deep = h;
      wide = omega arith;
      of_lane = λ p q k hp hq. side_edge f k;
      lane_of = λ s r e. side_lane f s.face e;
      narrow = λ s r e. along_below n s.row s.col (edge_to f s.face) r.row_ok r.col_ok;
    }

-- the quarter of a face in which a row and a column lie, by the edge from which it is counted; 4 at the middle
unfoldable pub quarter_at : ℕ → ℕ → ℕ → ℕ
quarter_at n row col =
    pick (ltb row (n / 2)) (pick (ltb col (n / 2)) 0 1)
    (pick (ltb row (n - n / 2)) (pick (ltb col (n / 2)) 0 (pick (ltb col (n - n / 2)) 4 2)) (pick (ltb col (n - n / 2)) 3 2))

pub quarter_at_lem : (n p q e : ℕ) → e < 4 → p < n - n / 2 → q < n / 2 → quarter_at n (get_or (spots n p q) e 0) (get_or (spots n p q) (e + 1) 0) ≡ e
unfolding quarter_at
quarter_at_lem n p q zero he hp hq =
    less_cases p (n / 2) (λ a. rw (lt-ltb p (n / 2) a, lt-ltb q (n / 2) hq))
    (λ a. rw (le-ltb p (n / 2) a, lt-ltb p (n - n / 2) hp, lt-ltb q (n / 2) hq))
quarter_at_lem n p q (suc zero) he hp hq = rw (lt-ltb q (n / 2) hq, le-ltb (n - 1 - p) (n / 2) (omega arith))
quarter_at_lem n p q (suc (suc zero)) he hp hq =
    less_cases (n - 1 - p) (n - n / 2)
    (λ a. rw (le-ltb (n - 1 - p) (n / 2) (omega arith), lt-ltb (n - 1 - p) (n - n / 2) a, le-ltb (n - 1 - q) (n / 2) (omega arith), le-ltb (n - 1 - q) (n - n / 2) (omega arith)))
    (λ a. rw (le-ltb (n - 1 - p) (n / 2) (omega arith), le-ltb (n - 1 - p) (n - n / 2) a, le-ltb (n - 1 - q) (n - n / 2) (omega arith)))
quarter_at_lem n p q (suc (suc (suc zero))) he hp hq =
    rw (le-ltb (n - 1 - q) (n / 2) (omega arith), le-ltb (n - 1 - q) (n - n / 2) (omega arith), lt-ltb p (n - n / 2) hp)
quarter_at_lem n p q (suc (suc (suc (suc e)))) he hp hq = absurd (omega arith)

-- a row and a column of a quarter are those of one of its cells, and at the middle they are the middle
pub record Quarter (n row col e : ℕ) : Type 0 where
  pub line : e < 4 → depth n row col e < n - n / 2
  pub column : e < 4 → along n row col e < n / 2
  pub middle : 4 ≤ e → (row ≡ n / 2) × (col ≡ n / 2) × (n ≡ 2 * (n / 2) + 1)

pub quarter_is : (n row col : ℕ) → row < n → col < n → Quarter n row col (quarter_at n row col)
unfolding quarter_at
quarter_is n row col hr hc =
    less_cases row (n / 2)
    (λ a. less_cases col (n / 2)
    (λ b. rw (lt-ltb row (n / 2) a, lt-ltb col (n / 2) b) (record { line = λ h. omega arith; column = λ h. omega arith; middle = λ h. absurd (omega arith) }))
    (λ b. rw (lt-ltb row (n / 2) a, le-ltb col (n / 2) b) (record { line = λ h. omega arith; column = λ h. omega arith; middle = λ h. absurd (omega arith) })))
    (λ a. less_cases row (n - n / 2)
    (λ d. less_cases col (n / 2)
    (λ b. rw (le-ltb row (n / 2) a, lt-ltb row (n - n / 2) d, lt-ltb col (n / 2) b) (record { line = λ h. omega arith; column = λ h. omega arith; middle = λ h. absurd (omega arith) }))
    (λ b. less_cases col (n - n / 2)
    (λ g. rw (le-ltb row (n / 2) a, lt-ltb row (n - n / 2) d, le-ltb col (n / 2) b, lt-ltb col (n - n / 2) g)
    (record { line = λ h. absurd (omega arith); column = λ h. absurd (omega arith); middle = λ h. (omega arith, omega arith, omega arith) }))
    (λ g. rw (le-ltb row (n / 2) a, lt-ltb row (n - n / 2) d, le-ltb col (n / 2) b, le-ltb col (n - n / 2) g)
    (record { line = λ h. omega arith; column = λ h. omega arith; middle = λ h. absurd (omega arith) }))))
    (λ d. less_cases col (n - n / 2)
    (λ b. rw (le-ltb row (n / 2) a, le-ltb row (n - n / 2) d, lt-ltb col (n - n / 2) b) (record { line = λ h. omega arith; column = λ h. omega arith; middle = λ h. absurd (omega arith) }))
    (λ b. rw (le-ltb row (n / 2) a, le-ltb row (n - n / 2) d, le-ltb col (n - n / 2) b) (record { line = λ h. omega arith; column = λ h. omega arith; middle = λ h. absurd (omega arith) }))))

-- the edge of a slot on face g
abbrev pub face_edge : ℕ → Face → Slot → ℕ
face_edge n g s = pick (same_face s.face g) (quarter_at n s.row s.col) 4

pub face_edge_lem : (n : ℕ) (g : Face) (s : Slot) → s.face ≡ g → face_edge n g s ≡ quarter_at n s.row s.col
face_edge_lem n g s e = ap (λ x. pick (same_face x g) (quarter_at n s.row s.col) 4) e ∙ rw (same_self g)

pub edge_face : (n : ℕ) (g : Face) (s : Slot) → face_edge n g s < 4 → s.face ≡ g
edge_face n g s h =
    bool_cases (same_face s.face g) (λ t. same_face_lem _ _ t) (λ t. let k : 4 < 4 = rw t at h in absurd (omega arith))

-- the lane of a ring with an edge
abbrev lane_by : ℕ → ℕ → ℕ
lane_by ring e = pick (eqb (lane_edge (4 * ring)) e) 0 (pick (eqb (lane_edge (4 * ring + 1)) e) 1 (pick (eqb (lane_edge (4 * ring + 2)) e) 2 3))

abbrev edge_test : ℕ → Bool
edge_test i = eqb (i / 4 % 3) 0 || eqb (lane_edge (4 * (i / 4) + lane_by (i / 4) (i % 4))) (i % 4)

edge_lane : (ring e : ℕ) → ring < 18 → (ring % 3 ≡ 0 → ⊥) → e < 4 → lane_edge (4 * ring + lane_by ring e) ≡ e
unfolding any_below ring_edges
edge_lane ring e hr hs he =
    let i : 4 * ring + e < 72 = omega arith in
    let x : (4 * ring + e) / 4 ≡ ring = omega arith in
    let y : (4 * ring + e) % 4 ≡ e = omega arith in
    let t = if_not (tested edge_test 72 refl (4 * ring + e) i) (ne_eqb _ _ (λ d. hs (sym (ap (λ z. z % 3) x) ∙ d))) in
    (λ j. lane_edge (4 * sym x j + lane_by (sym x j) (sym y j))) ∙ eqb-true _ _ t ∙ y

-- the rings of a face and of the face opposite
pub quarters : {n : ℕ} (ring : ℕ) (g : Face) → Sized n → ring < 18 → (ring % 3 ≡ 0 → ⊥) → ((k : ℕ) → lane_face (lane_entry ring k) ≡ g)
    → Edging n ring (n - n / 2) (n / 2) (face_edge n g)
quarters {n} ring g z hr hs hg =
    record {
      sized = z;
      ring_is = hr;
      deep = omega arith;
      wide = omega arith;
      of_lane = λ p q k hp hq. face_edge_lem n g (ring_slot n ring p q k) (hg k)
          ∙ quarter_at_lem n p q (lane_edge (lane_entry ring k)) (ring_edge _ (omega arith)) hp hq;
      lane_of = lane;
      narrow = λ s r h. let e = face_edge_lem n g s (edge_face n g s h) in
          subst (λ (x : ℕ). along n s.row s.col x < n / 2) (sym e)
          ((quarter_is n s.row s.col r.row_ok r.col_ok).column (subst (λ (x : ℕ). x < 4) e h));
    }
  where
    lane : (s : Slot) → Real n s → face_edge n g s < 4 → Laned ring s.face (face_edge n g s)
    lane s r h =
        let x = face_edge n g s in
        let k : lane_by ring (face_edge n g s) < 4 = lane_small (eqb (lane_edge (4 * ring)) x) (eqb (lane_edge (4 * ring + 1)) x) (eqb (lane_edge (4 * ring + 2)) x) in
        let i : lane_entry ring (lane_by ring (face_edge n g s)) ≡ 4 * ring + lane_by ring (face_edge n g s) = omega arith in
        record {
          lane = lane_by ring (face_edge n g s);
          small = k;
          face = hg (lane_by ring (face_edge n g s)) ∙ sym (edge_face n g s h);
          edge = ap lane_edge i ∙ edge_lane ring (face_edge n g s) hr hs h;
        }

-- the face on which a ring lies: the first after the sides is the face's own, the next is the face's opposite
abbrev ring_face : Face → ℕ → Face
ring_face f s = pick (eqb s 1) f (opposite f)

abbrev face_test : ℕ → Bool
face_test i = eqb (i / 4 % 3) 0 || same_face (lane_face i) (ring_face (nth_face (i / 12)) (i / 4 % 3))

ring_on : (f : Face) (s k : ℕ) → 1 ≤ s → s < 3 → lane_face (lane_entry (3 * num_of f + s) k) ≡ ring_face f s
unfolding any_below same_face ring_faces
ring_on f s k hs h =
    let a = number_below f _ refl in
    let i : lane_entry (3 * num_of f + s) k < 72 = omega arith in
    let e : lane_entry (3 * num_of f + s) k / 4 % 3 ≡ s = omega arith in
    let x : lane_entry (3 * num_of f + s) k / 12 ≡ num_of f = omega arith in
    same_face_lem _ _ (if_not (tested face_test 72 refl (lane_entry (3 * num_of f + s) k) i) (ne_eqb _ _ (λ d. let z : s ≡ 0 = sym e ∙ d in absurd (omega arith))))
    ∙ (λ j. ring_face ((ap nth_face x ∙ num_nth f) j) (e j))

pub own_face : (f : Face) (k : ℕ) → lane_face (lane_entry (3 * num_of f + 1) k) ≡ f
own_face f k = ring_on f 1 k (omega arith) (omega arith)

pub far_face : (f : Face) (k : ℕ) → lane_face (lane_entry (3 * num_of f + 2) k) ≡ opposite f
far_face f k = ring_on f 2 k (omega arith) (omega arith)
