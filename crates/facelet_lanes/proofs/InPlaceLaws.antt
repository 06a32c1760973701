-- The rings of a face, turned in place, are the move: every place has what stood at its source.
use Prim.Native.Nat.{ℕ, zero, suc, ◌+◌, ◌-◌, ◌*◌, ◌/◌, ◌%◌, ◌<◌, ◌≤◌}
use mathlib.Core.Path.{◌≡◌, refl, ap, sym, subst, ◌∙◌}
use mathlib.Core.Bool.{Bool, true, false, ◌&&◌, true≢false}
use mathlib.Core.List.{List}
use native.Mathlib.Omega.{arith}
use native.Mathlib.Nat.{zero-add, mul-le-mul_right}
use lib.Dec.{ltb, leb, eqb}
use lib.ListN.{length, get_or}
use lib.Seq.{ext_get_or}
use borrow.Author.Tests.{le-ltb, ltb-false, le-leb, lt-leb}
use Rattle.ground.specs.Choice.{pick}
use Rattle.ground.proofs.ChoiceLaws.{bool_cases, less_cases}
use Rattle.generic_cube.specs.declared.Move.{Move}
use Rattle.generic_cube.specs.Sizes.{stickers}
use Rattle.generic_cube.specs.Inner.{Sized, Fair}
use Rattle.sticker.specs.declared.Face.{Face}
use Rattle.sticker.specs.Place.{Slot, top, num_of, nth_face, place_of, flat, unflat}
use Rattle.sticker.proofs.PlaceLaws.{Real, slot_eq, num_nth, number_below, flat-unflat, unflat_real, digits_below}
use Rattle.geometric_moves.specs.Turn.{toward, opposite, same_face, kind_face, layers_of, source, moved}
use Rattle.geometric_moves.proofs.RotationLaws.{neg-toward, opposite-twice}
use Rattle.geometric_moves.proofs.FaceLaws.{same_face_lem}
use Rattle.geometric_moves.proofs.TurnLaws.{TakesLayers, takes_first}
use Rattle.geometric_moves.proofs.MovedLaws.{length_moved, get_d_moved}
use Rattle.facelet_lanes.proofs.LaneLaws.{spots, ring_edge, length_ring, length_face}
use Rattle.facelet_lanes.specs.InnerLanes.{ring_turned, face_turned, layers_turned, LayersFit}
use Rattle.facelet_lanes.proofs.EdgeLaws.{edge_of, slot_at, edge_place, edge_place_in, seen, lane_face, lane_edge}
use Rattle.facelet_lanes.proofs.RingLaws.{lane_entry, ring_slot, ring_place, Cell, ring_flat, came_from, stays}
use Rattle.facelet_lanes.proofs.CycleLaws.{in_range, past_range, ring_turned_lem}
use Rattle.facelet_lanes.proofs.KeyLaws.{depth, along, row_back, col_back, depth_below, along_below, place_key, key_none, edge_cell_key}
use Rattle.facelet_lanes.proofs.SideLaws.{edge_to, edge_beyond, no_edge, edge_self, edge_opposite, opposite_other, side_edge, sides, quarter_at, quarter_is, face_edge, face_edge_lem, edge_face, quarters, own_face, far_face}

and_no : (a : Bool) {b : Bool} → b ≡ false → (a && b) ≡ false
and_no true e = e
and_no false e = refl

-- a move that takes `count` layers from `first` on
module _ (n : ℕ) (m : Move) (first count : ℕ) (z : Sized n) (t1 : 1 ≤ m.turn) (t3 : m.turn ≤ 3) (T : TakesLayers n m first count) where
  abbrev f : Face
  f = kind_face m.kind

  abbrev half : ℕ
  half = n / 2

  abbrev rest : ℕ
  rest = n - n / 2

  -- the keys of the three rings
  abbrev side_key : ℕ → ℕ
  side_key j = place_key n n (λ s. edge_to f s.face) j

  abbrev own_key : ℕ → ℕ
  own_key j = place_key n (n / 2) (face_edge n f) j

  abbrev far_key : ℕ → ℕ
  far_key j = place_key n (n / 2) (face_edge n (opposite f)) j

  -- whether a place is one of a ring's that turns
  abbrev on_side : ℕ → Bool
  on_side j = leb (first * n) (side_key j) && ltb (side_key j) ((first + count) * n)

  abbrev on_own : ℕ → Bool
  on_own j = eqb first 0 && ltb (own_key j) (rest * half)

  abbrev on_far : ℕ → Bool
  on_far j = eqb (first + count) n && ltb (far_key j) (rest * half)

  -- the faces of the rings
  ring_face_is : (s : ℕ) → s < 3 → nth_face ((3 * num_of f + s) / 3) ≡ f
  ring_face_is s h = let e : (3 * num_of f + s) / 3 ≡ num_of f = omega arith in ap nth_face e ∙ num_nth f

  cell_of : (s p q : ℕ) → s < 3 → p < n → q < n → Cell n (3 * num_of f + s) p q
  cell_of s p q h hp hq = let a = number_below f _ refl in record { sized = z; ring_is = omega arith; line = hp; column = hq }

  far_toward : (e p q : ℕ) (g : Face) → e < 4 → p < n → q < n → g ≡ opposite f → toward n (edge_place n g e p q) f ≡ 0
  far_toward e p q g he hp hq d =
      let a = neg-toward n (edge_place n g e p q) (edge_place_in n g e p q hp hq) g in
      let b = (seen n g e p q he hp hq).face in
      let c : opposite g ≡ f = ap opposite d ∙ opposite-twice f in
      ap (toward n (edge_place n g e p q)) (sym c) ∙ sym a ∙ omega arith

  -- whence each ring's places come
  module _ (p q k : ℕ) (hq : q < n) where
    side_from : first ≤ p → p < first + count → p < n → source n m (ring_place n (3 * num_of f) p q k) ≡ ring_place n (3 * num_of f) p q (k + (4 - m.turn))
    side_from lo h hp =
        let e : 3 * num_of f + 0 ≡ 3 * num_of f = omega arith in
        let c = subst (λ (x : ℕ). Cell n x p q) e (cell_of 0 p q (omega arith) hp hq) in
        came_from c m (ap (λ x. nth_face (x / 3)) (sym e) ∙ ring_face_is 0 (omega arith))
        (λ i.
        let b : lane_edge (lane_entry (3 * num_of f) i) < 4 = ring_edge _ (let a = number_below f _ refl in omega arith) in
        let t = side_edge f i in
        let d : edge_of (lane_face (lane_entry (3 * num_of f) i)) (lane_edge (lane_entry (3 * num_of f) i)) ≡ f =
        ap (edge_of (lane_face (lane_entry (3 * num_of f) i))) (sym t) ∙ edge_beyond f (lane_face (lane_entry (3 * num_of f) i)) (omega arith) in
        T.line p _ hp
        (ap (toward n (edge_place n (lane_face (lane_entry (3 * num_of f) i)) (lane_edge (lane_entry (3 * num_of f) i)) p q)) (sym d)
        ∙ (seen n (lane_face (lane_entry (3 * num_of f) i)) (lane_edge (lane_entry (3 * num_of f) i)) p q b hp hq).edge)
        ∙ in_range first (first + count) p lo h)
        k

    own_from : p < n → eqb first 0 ≡ true → source n m (ring_place n (3 * num_of f + 1) p q k) ≡ ring_place n (3 * num_of f + 1) p q (k + (4 - m.turn))
    own_from hp u =
        came_from (cell_of 1 p q (omega arith) hp hq) m (ring_face_is 1 (omega arith))
        (λ i.
        let b : lane_edge (lane_entry (3 * num_of f + 1) i) < 4 = ring_edge _ (let a = number_below f _ refl in omega arith) in
        T.own_face _
        (ap (toward n (edge_place n (lane_face (lane_entry (3 * num_of f + 1) i)) (lane_edge (lane_entry (3 * num_of f + 1) i)) p q)) (sym (own_face f i))
        ∙ (seen n (lane_face (lane_entry (3 * num_of f + 1) i)) (lane_edge (lane_entry (3 * num_of f + 1) i)) p q b hp hq).face)
        ∙ u)
        k

    far_from : p < n → eqb (first + count) n ≡ true → source n m (ring_place n (3 * num_of f + 2) p q k) ≡ ring_place n (3 * num_of f + 2) p q (k + (4 - m.turn))
    far_from hp u =
        came_from (cell_of 2 p q (omega arith) hp hq) m (ring_face_is 2 (omega arith))
        (λ i.
        let b : lane_edge (lane_entry (3 * num_of f + 2) i) < 4 = ring_edge _ (let a = number_below f _ refl in omega arith) in
        T.far_face _ (far_toward (lane_edge (lane_entry (3 * num_of f + 2) i)) p q (lane_face (lane_entry (3 * num_of f + 2) i)) b hp hq (far_face f i)) ∙ u)
        k

  -- the middle of a face is every lane's
  middle_of : (ring : ℕ) (g : Face) (s : Slot) → ((k : ℕ) → lane_face (lane_entry ring k) ≡ g) → ring < 18 → Real n s → s.face ≡ g
      → 4 ≤ quarter_at n s.row s.col → (k : ℕ) → s ≡ ring_slot n ring (n / 2) (n / 2) k
  middle_of ring g s hg hr real d h k =
      let c = (quarter_is n s.row s.col real.row_ok real.col_ok).middle h in
      let e : lane_edge (lane_entry ring k) < 4 = ring_edge _ (omega arith) in
      slot_eq _ _ (d ∙ sym (hg k)) (c.1 ∙ sym (mids (lane_edge (lane_entry ring k) + 1) (omega arith) c.2)) (c.0 ∙ sym (mids (lane_edge (lane_entry ring k)) (omega arith) c.2))
    where
      mids : (e : ℕ) → e < 5 → n ≡ 2 * (n / 2) + 1 → get_or (spots n (n / 2) (n / 2)) e 0 ≡ n / 2
      mids zero he o = refl
      mids (suc zero) he o = refl
      mids (suc (suc zero)) he o = omega arith
      mids (suc (suc (suc zero))) he o = omega arith
      mids (suc (suc (suc (suc zero)))) he o = refl
      mids (suc (suc (suc (suc (suc e))))) he o = absurd (omega arith)

  module _ (j : ℕ) (hj : j < stickers n) where
    abbrev s : Slot
    s = unflat n j

    real : Real n s
    real = unflat_real n j z.some

    -- a place that no ring has in the layers stays
    middle_stays : (i : ℕ) (g : Face) → i < 3 → ((k : ℕ) → lane_face (lane_entry (3 * num_of f + i) k) ≡ g) → s.face ≡ g
        → rest * half ≤ place_key n (n / 2) (face_edge n g) j
        → ((k : ℕ) → n / 2 < n → source n m (ring_place n (3 * num_of f + i) (n / 2) (n / 2) k) ≡ ring_place n (3 * num_of f + i) (n / 2) (n / 2) (k + (4 - m.turn)))
        → source n m j ≡ j
    middle_stays i g hi hg d h from =
        let a = number_below f _ refl in
        let hr : 3 * num_of f + i < 18 = omega arith in
        let b : n / 2 < n = omega (arith, z.some) in
        let c = cell_of i (n / 2) (n / 2) hi b b in
        less_cases (quarter_at n s.row s.col) 4
        (λ t.
        let q = quarter_is n s.row s.col real.row_ok real.col_ok in
        let x = digits_below half rest (depth n s.row s.col (quarter_at n s.row s.col)) (along n s.row s.col (quarter_at n s.row s.col)) (q.line t) (q.column t) in
        let y = ap (λ e. depth n s.row s.col e * half + along n s.row s.col e) (face_edge_lem n g s d) in
        absurd (omega arith))
        (λ t.
        let is : (k : ℕ) → j ≡ ring_place n (3 * num_of f + i) (n / 2) (n / 2) k
        = λ k. sym (flat-unflat n j z.some hj) ∙ ap (flat n) (middle_of (3 * num_of f + i) g s hg hr real d t k) ∙ sym (ring_flat c k) in
        ap (source n m) (is 0) ∙ from 0 b ∙ sym (is (0 + (4 - m.turn))))

    -- the coordinate of a place of the face, of the face opposite
    toward_own : s.face ≡ f → toward n (place_of n s) f ≡ top n
    toward_own d =
        ap (λ x. toward n (place_of n x) f) (slot_eq s (slot_at n s.face 0 s.row s.col) refl refl refl)
        ∙ ap (toward n (edge_place n s.face 0 s.row s.col)) (sym d)
        ∙ (seen n s.face 0 s.row s.col (omega arith) real.row_ok real.col_ok).face

    toward_far : s.face ≡ opposite f → toward n (place_of n s) f ≡ 0
    toward_far d =
        ap (λ x. toward n (place_of n x) f) (slot_eq s (slot_at n s.face 0 s.row s.col) refl refl refl)
        ∙ far_toward 0 s.row s.col s.face (omega arith) real.row_ok real.col_ok d

    pub still : on_side j ≡ false → on_own j ≡ false → on_far j ≡ false → source n m j ≡ j
    still a b c =
        less_cases (edge_to f s.face) 4 beside
        (λ h. bool_cases (same_face s.face f)
        (λ t. on_own_lem (same_face_lem _ _ t))
        (λ t. opposed (same_face_lem _ _ (rw t at (no_edge f s.face h)))))
      where
        e : ℕ
        e = edge_to f s.face

        beside : edge_to f s.face < 4 → source n m j ≡ j
        beside h =
            let p = depth n s.row s.col e in
            let q = along n s.row s.col e in
            let hp : p < n = depth_below n s.row s.col e h real.row_ok real.col_ok in
            let hq : q < n = along_below n s.row s.col e real.row_ok real.col_ok in
            let d : s ≡ slot_at n s.face e p q = slot_eq _ _ refl (sym (col_back n s.row s.col e h real.row_ok real.col_ok)) (sym (row_back n s.row s.col e h real.row_ok real.col_ok)) in
            stays n m j z.some hj
            (T.line p _ hp
            (ap (λ x. toward n (place_of n x) f) d ∙ ap (toward n (edge_place n s.face e p q)) (sym (edge_beyond f s.face h)) ∙ (seen n s.face e p q h hp hq).edge)
            ∙ less_cases p first (λ l. rw (lt-leb first p l))
            (λ l. less_cases p (first + count)
            (λ k. absurd (true≢false (sym (in_range (first * n) ((first + count) * n) (p * n + q)
            (omega (arith, mul-le-mul_right n l)) (digits_below n (first + count) p q k hq)) ∙ a)))
            (λ k. past_range first (first + count) p k)))

        on_own_lem : s.face ≡ f → source n m j ≡ j
        on_own_lem d =
            bool_cases (eqb first 0)
            (λ t. middle_stays 1 f (omega arith) (own_face f) d (ltb-false _ _ (rw t at b)) (λ k h. own_from (n / 2) (n / 2) k h h t))
            (λ t. stays n m j z.some hj (T.own_face _ (toward_own d) ∙ t))

        opposed : s.face ≡ opposite f → source n m j ≡ j
        opposed d =
            bool_cases (eqb (first + count) n)
            (λ t. middle_stays 2 (opposite f) (omega arith) (far_face f) d (ltb-false _ _ (rw t at c)) (λ k h. far_from (n / 2) (n / 2) k h h t))
            (λ t. stays n m j z.some hj (T.far_face _ (toward_far d) ∙ t))

    -- the rings do not meet
    own_alone : own_key j < rest * half → on_side j ≡ false
    own_alone h =
        less_cases (face_edge n f s) 4
        (λ t. past_range (first * n) ((first + count) * n) (side_key j)
        (key_none n (first + count) n (λ x. edge_to f x.face) s T.within
        (subst (λ (g : Face). 4 ≤ edge_to f g) (sym (edge_face n f s t)) (edge_self f))))
        (λ t. absurd (let a = key_none n rest half (face_edge n f) s (omega arith) t in omega arith))

    far_alone : far_key j < rest * half → (on_side j ≡ false) × (on_own j ≡ false)
    far_alone h =
        less_cases (face_edge n (opposite f) s) 4
        (λ t.
        let d = edge_face n (opposite f) s t in
        let g : face_edge n f s ≡ 4 = ap (λ x. pick (same_face x f) (quarter_at n s.row s.col) 4) d ∙ rw (opposite_other f) in (
          past_range (first * n) ((first + count) * n) (side_key j)
              (key_none n (first + count) n (λ x. edge_to f x.face) s T.within (subst (λ (x : Face). 4 ≤ edge_to f x) (sym d) (edge_opposite f))),
          and_no (eqb first 0) (le-ltb (own_key j) (rest * half) (key_none n rest half (face_edge n f) s (omega arith) (omega arith))),
        ))
        (λ t. absurd (let a = key_none n rest half (face_edge n (opposite f)) s (omega arith) t in omega arith))

  -- the three rings, one after the other
  module _ (l : List ℕ) (long : length l ≡ stickers n) where
    abbrev sides_turned : List ℕ
    sides_turned = ring_turned n m.turn (3 * num_of f) n first count l

    abbrev own_turned : List ℕ
    own_turned = face_turned n m.turn (3 * num_of f + 1) (eqb first 0) sides_turned

    abbrev far_turned : List ℕ
    far_turned = face_turned n m.turn (3 * num_of f + 2) (eqb (first + count) n) own_turned

    sides_long : length sides_turned ≡ stickers n
    sides_long = length_ring n m.turn (3 * num_of f) n first count l ∙ long

    own_long : length own_turned ≡ stickers n
    own_long = length_face n m.turn (3 * num_of f + 1) (eqb first 0) sides_turned ∙ sides_long

    far_long : length far_turned ≡ stickers n
    far_long = length_face n m.turn (3 * num_of f + 2) (eqb (first + count) n) own_turned ∙ own_long

    -- what each place has after each of them
    abbrev Chosen : List ℕ → (ℕ → Bool) → List ℕ → Type 0
    Chosen c₀ test c = (j : ℕ) → j < stickers n → get_or c j 0 ≡ pick (test j) (get_or l (source n m j) 0) (get_or c₀ j 0)

    sides_done : Chosen l on_side sides_turned
    sides_done =
        ring_turned_lem m.turn (source n m) first l l (edge_cell_key (λ x. edge_to f x.face) (sides f z T.within)) t1 t3 long
        (λ p q k lo hp hq. side_from p q k hq lo hp (omega (arith, T.within))) (λ j hj a b. refl) count (omega arith)

    -- the cells of a face's ring are counted from 0
    from_none : (k : ℕ) → (leb (0 * half) k && ltb k ((0 + rest) * half)) ≡ ltb k (rest * half)
    from_none k = rw (le-leb (0 * half) k (omega arith), zero-add rest)

    -- a face's ring that turns, or does not
    face_done : (ring : ℕ) (g : Face) (turns : Bool) (c₀ : List ℕ) → ring < 18 → (ring % 3 ≡ 0 → ⊥) → ((k : ℕ) → lane_face (lane_entry ring k) ≡ g)
        → length c₀ ≡ stickers n
        → (turns ≡ true → (p q k : ℕ) → p < n → q < n → source n m (ring_place n ring p q k) ≡ ring_place n ring p q (k + (4 - m.turn)))
        → ((j : ℕ) → j < stickers n → place_key n half (face_edge n g) j < rest * half → get_or c₀ j 0 ≡ get_or l j 0)
        → Chosen c₀ (λ j. turns && ltb (place_key n half (face_edge n g) j) (rest * half)) (face_turned n m.turn ring turns c₀)
    face_done ring g true c₀ hr hs hg hl from old j hj =
        ring_turned_lem m.turn (source n m) 0 l c₀ (edge_cell_key (face_edge n g) (quarters ring g z hr hs hg)) t1 t3 hl
        (λ p q k lo hp hq. from refl p q k (omega arith) (omega arith)) (λ i hi a b. old i hi b) rest (omega arith) j hj
        ∙ ap (λ x. pick x (get_or l (source n m j) 0) (get_or c₀ j 0)) (from_none (place_key n half (face_edge n g) j))
    face_done ring g false c₀ hr hs hg hl from old j hj = refl

    own_done : Chosen sides_turned on_own own_turned
    own_done =
        face_done (3 * num_of f + 1) f (eqb first 0) sides_turned (omega (arith, number_below f _ refl)) (λ e. omega arith) (own_face f) sides_long
        (λ u p q k hp hq. own_from p q k hq hp u)
        (λ j hj h. sides_done j hj ∙ ap (λ b. pick b (get_or l (source n m j) 0) (get_or l j 0)) (own_alone j hj h))

    far_done : Chosen own_turned on_far far_turned
    far_done =
        face_done (3 * num_of f + 2) (opposite f) (eqb (first + count) n) own_turned (omega (arith, number_below f _ refl)) (λ e. omega arith) (far_face f) own_long
        (λ u p q k hp hq. far_from p q k hq hp u)
        (λ j hj h. own_done j hj
        ∙ ap (λ b. pick b (get_or l (source n m j) 0) (get_or sides_turned j 0)) (far_alone j hj h).1
        ∙ sides_done j hj
        ∙ ap (λ b. pick b (get_or l (source n m j) 0) (get_or l j 0)) (far_alone j hj h).0)

    chosen : (b : Bool) (x y : ℕ) → (b ≡ false → y ≡ x) → pick b x y ≡ x
    chosen true x y h = refl
    chosen false x y h = h refl

    pub layers_moved : layers_turned n m.turn (num_of f) first count l ≡ moved n m l
    unfolding layers_turned
    layers_moved =
        ext_get_or 0 far_turned (moved n m l) (far_long ∙ sym (length_moved n m l))
        (λ j k. let hj : j < stickers n = omega (arith, far_long) in
        far_done j hj ∙ chosen (on_far j) _ _
        (λ a. own_done j hj ∙ chosen (on_own j) _ _
        (λ b. sides_done j hj ∙ chosen (on_side j) _ _
        (λ c. ap (λ x. get_or l x 0) (sym (still j hj c b a)))))
        ∙ sym (get_d_moved n m l j hj))

-- the code's steps: the layers of the move are turned
pub apply_fits : {n face count long : ℕ} (m : Move) → Sized n → Fair n m → face ≡ num_of (kind_face m.kind) → count ≡ layers_of n m → long ≡ stickers n
    → LayersFit n face 0 count long
apply_fits {n} {face} m z fair e d h =
    record {
      sized = z;
      face_is = number_below (kind_face m.kind) face e;
      deep = omega (arith, (takes_first z fair).within);
      whole = h;
    }

pub apply_moved : {n face count : ℕ} {l' : List ℕ} (l : List ℕ) (m : Move) → Sized n → Fair n m → length l ≡ stickers n → face ≡ num_of (kind_face m.kind)
    → count ≡ layers_of n m → l' ≡ layers_turned n m.turn face 0 count l → l' ≡ moved n m l
apply_moved {n} l m z fair long e d h =
    h ∙ (λ i. layers_turned n m.turn (e i) 0 (d i) l) ∙ layers_moved n m 0 (layers_of n m) z fair.some fair.most (takes_first z fair) l long
