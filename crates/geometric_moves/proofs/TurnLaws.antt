-- Laws of turns: a turned sticker is a sticker, and turns of the same layers about the same axis add up. The layers are any test
-- of the coordinate towards the face.
use Prim.Native.Nat.{ℕ, zero, suc, ◌+◌, ◌-◌, ◌*◌, ◌%◌, ◌<◌, ◌≤◌}
use mathlib.Core.Path.{◌≡◌, refl, ap, sym, subst, ◌∙◌}
use mathlib.Core.Bool.{Bool, true, false, ◌&&◌}
use native.Mathlib.Omega.{arith}
use native.Mathlib.Nat.{zero-add}
use lib.Dec.{ltb, leb, eqb}
use borrow.Author.Tests.{le-leb, lt-leb, lt-ltb, le-ltb, eq-eqb, ne_eqb}
use Rattle.ground.specs.Choice.{pick}
use Rattle.ground.proofs.ChoiceLaws.{bool_cases, less_cases}
use Rattle.generic_cube.specs.declared.Move.{Move}
use Rattle.generic_cube.specs.Sizes.{stickers}
use Rattle.generic_cube.specs.Code.{with_turn}
use Rattle.generic_cube.specs.Inner.{Sized, Fair}
use Rattle.sticker.specs.declared.Face.{Face}
use Rattle.sticker.specs.declared.Face.TheVariants.{U, R, F, D, L, B}
use Rattle.sticker.specs.Place.{Pos, top, bot, mid, seat, place_of, place, index, InCube}
use Rattle.sticker.proofs.PlaceLaws.{sticker_in, pos_eq, Sticker, place_sticker, place-index, index-place, index_below}
use Rattle.geometric_moves.specs.declared.Rotation.{Rotation}
use Rattle.geometric_moves.specs.Turn.{toward, rotate, identity, rot_x, rot_y, rot_z, then_rot, same_face, whither, inverse_rot, turn_of, quarter_of, kind_face, layers_of, takes, via, rotation_of, turned, target}
use Rattle.geometric_moves.proofs.RotationLaws.{toward-rotate, rotate_then, turn_add, turn_mod, turn_axis}

-- the sticker in column c and row r of face f
at_slot : {n : ℕ} {p : Pos} (f : Face) (c r : ℕ) → c < n → r < n → place_of n (record { face = f; row = r; col = c }) ≡ p → Sticker n p
at_slot f c r hc hr e =
    record { slot = record { face = f; row = r; col = c }; real = record { col_ok = hc; row_ok = hr }; here = e }

-- a sticker's coordinate is n towards its own face
pub seat-toward : (n : ℕ) (g : Face) (c r : ℕ) → toward n (seat n g (mid c) (mid r)) g ≡ top n
seat-toward n U c r = refl
seat-toward n R c r = refl
seat-toward n F c r = refl
seat-toward n D c r = omega arith
seat-toward n L c r = omega arith
seat-toward n B c r = omega arith

-- a quarter turn of a sticker's place is a sticker's place: which one, face by face
module _ (n c r : ℕ) (hc : c < n) (hr : r < n) where
  seat_X : (f : Face) → Sticker n (rotate n rot_x (seat n f (mid c) (mid r)))
  seat_X U = at_slot B (n - 1 - c) (n - 1 - r) (omega arith) (omega arith) (pos_eq _ _ (omega arith) (omega arith) (omega arith))
  seat_X R = at_slot R (n - 1 - r) c (omega arith) hc (pos_eq _ _ (omega arith) (omega arith) (omega arith))
  seat_X F = at_slot U c r hc hr (pos_eq _ _ (omega arith) (omega arith) (omega arith))
  seat_X D = at_slot F c r hc hr (pos_eq _ _ (omega arith) (omega arith) (omega arith))
  seat_X L = at_slot L r (n - 1 - c) hr (omega arith) (pos_eq _ _ (omega arith) (omega arith) (omega arith))
  seat_X B = at_slot D (n - 1 - c) (n - 1 - r) (omega arith) (omega arith) (pos_eq _ _ (omega arith) (omega arith) (omega arith))

  seat_Y : (f : Face) → Sticker n (rotate n rot_y (seat n f (mid c) (mid r)))
  seat_Y U = at_slot U (n - 1 - r) c (omega arith) hc (pos_eq _ _ (omega arith) (omega arith) (omega arith))
  seat_Y R = at_slot F c r hc hr (pos_eq _ _ (omega arith) (omega arith) (omega arith))
  seat_Y F = at_slot L c r hc hr (pos_eq _ _ (omega arith) (omega arith) (omega arith))
  seat_Y D = at_slot D r (n - 1 - c) hr (omega arith) (pos_eq _ _ (omega arith) (omega arith) (omega arith))
  seat_Y L = at_slot B c r hc hr (pos_eq _ _ (omega arith) (omega arith) (omega arith))
  seat_Y B = at_slot R c r hc hr (pos_eq _ _ (omega arith) (omega arith) (omega arith))

  seat_Z : (f : Face) → Sticker n (rotate n rot_z (seat n f (mid c) (mid r)))
  seat_Z U = at_slot R (n - 1 - r) c (omega arith) hc (pos_eq _ _ (omega arith) (omega arith) (omega arith))
  seat_Z R = at_slot D (n - 1 - r) c (omega arith) hc (pos_eq _ _ (omega arith) (omega arith) (omega arith))
  seat_Z F = at_slot F (n - 1 - r) c (omega arith) hc (pos_eq _ _ (omega arith) (omega arith) (omega arith))
  seat_Z D = at_slot L (n - 1 - r) c (omega arith) hc (pos_eq _ _ (omega arith) (omega arith) (omega arith))
  seat_Z L = at_slot U (n - 1 - r) c (omega arith) hc (pos_eq _ _ (omega arith) (omega arith) (omega arith))
  seat_Z B = at_slot B r (n - 1 - c) hr (omega arith) (pos_eq _ _ (omega arith) (omega arith) (omega arith))

-- a rotation that takes stickers' places to stickers' places
unfoldable pub Keeps : Rotation → Type 0
Keeps r = (n : ℕ) (p : Pos) → Sticker n p → Sticker n (rotate n r p)

keeps_seat : (r : Rotation) → ((n c k : ℕ) → c < n → k < n → (f : Face) → Sticker n (rotate n r (seat n f (mid c) (mid k)))) → Keeps r
unfolding Keeps
keeps_seat r h n p s =
    subst (λ (q : Pos). Sticker n (rotate n r q)) s.here
    (h n s.slot.col s.slot.row s.real.col_ok s.real.row_ok s.slot.face)

keeps_then : (r s : Rotation) → Keeps r → Keeps s → Keeps (then_rot r s)
unfolding Keeps
keeps_then r s kr ks n p h = subst (Sticker n) (rotate_then n p (sticker_in n p h) r s) (ks n (rotate n r p) (kr n p h))

keeps_identity : Keeps identity
unfolding Keeps
keeps_identity n p s = s

pub keeps_turn : (t : ℕ) (r : Rotation) → Keeps r → Keeps (turn_of t r)
unfolding turn_of
keeps_turn zero r k = keeps_identity
keeps_turn (suc t) r k = keeps_then (turn_of t r) r (keeps_turn t r k) k

-- the turn back about an axis is three turns
keeps_quarter : (f : Face) → Keeps (quarter_of f)
unfolding quarter_of inverse_rot whither same_face turn_of
keeps_quarter U = keeps_seat rot_y seat_Y
keeps_quarter R = keeps_seat rot_x seat_X
keeps_quarter F = keeps_seat rot_z seat_Z
keeps_quarter D = keeps_turn 3 rot_y (keeps_seat rot_y seat_Y)
keeps_quarter L = keeps_turn 3 rot_x (keeps_seat rot_x seat_X)
keeps_quarter B = keeps_turn 3 rot_z (keeps_seat rot_z seat_Z)

pub via_sticker : (n : ℕ) (f : Face) (test : ℕ → Bool) (r : Rotation) (p : Pos) → Keeps r → Sticker n p → Sticker n (via n f test r p)
unfolding Keeps
via_sticker n f test r p k s = go (test (toward n p f))
  where
    go : (b : Bool) → Sticker n (pick b (rotate n r p) p)
    go true = k n p s
    go false = s

-- turns of the same layers add up: the layers stay where they are
pub via-add : (n : ℕ) (f : Face) (test : ℕ → Bool) (a b : ℕ) (p : Pos) → InCube n p
    → via n f test (turn_of b (quarter_of f)) (via n f test (turn_of a (quarter_of f)) p) ≡ via n f test (turn_of (a + b) (quarter_of f)) p
via-add n f test a b p h =
    let q : Rotation = quarter_of f in
    bool_cases (test (toward n p f))
    (λ t.
    let k : test (toward n (rotate n (turn_of a q) p) f) ≡ true
    = ap test (toward-rotate n p h (turn_of a q) f ∙ ap (toward n p) (turn_axis f a)) ∙ t in
    rw (t, k) (rotate_then n p h (turn_of a q) (turn_of b q) ∙ ap (λ r. rotate n r p) (sym (turn_add a b q))))
    (λ t. rw (t, t))

-- no turn at all
pub via_none : (n : ℕ) (f : Face) (test : ℕ → Bool) (p : Pos) → via n f test (turn_of 0 (quarter_of f)) p ≡ p
unfolding turn_of
via_none n f test p = go (test (toward n p f))
  where
    go : (b : Bool) → pick b (rotate n identity p) p ≡ p
    go true = refl
    go false = refl

-- a turned sticker is a sticker, whatever the move
pub turned_sticker : (n : ℕ) (m : Move) (p : Pos) → Sticker n p → Sticker n (turned n m p)
turned_sticker n m p s =
    via_sticker n (kind_face m.kind) (takes n m) (rotation_of m) p
    (keeps_turn m.turn (quarter_of (kind_face m.kind)) (keeps_quarter (kind_face m.kind))) s

-- stored places
module _ (n : ℕ) (m : Move) (j : ℕ) (h : 0 < n) where
  pub target_below : target n m j < stickers n
  unfolding target
  target_below = index_below n _ (turned_sticker n m (place n j) (place_sticker n j h))

  pub target-place : place n (target n m j) ≡ turned n m (place n j)
  unfolding target
  target-place = place-index n _ (turned_sticker n m (place n j) (place_sticker n j h))

-- the turn has no say in which layers are taken
pub takes-turned : (n : ℕ) (m : Move) (t c : ℕ) → takes n (with_turn m t) c ≡ takes n m c
unfolding takes layers_of
takes-turned n m t c = refl

-- turns of equal kind and width add up, modulo 4, at every place
pub target-add : (n : ℕ) (m : Move) (a b c j : ℕ) → 0 < n → (a + b) % 4 ≡ c % 4
    → target n (with_turn m b) (target n (with_turn m a) j) ≡ target n (with_turn m c) j
unfolding target takes layers_of
target-add n m a b c j h e =
    let f = kind_face m.kind in
    let test = takes n m in
    let s = place_sticker n j h in
    ap (λ p. index n (turned n (with_turn m b) p)) (target-place n (with_turn m a) j h)
    ∙ ap (index n) (via-add n f test a b (place n j) (sticker_in n _ s)
    ∙ ap (λ r. via n f test r (place n j)) (turn_mod f (a + b) c e))

pub target_none : (n : ℕ) (m : Move) (j : ℕ) → 0 < n → j < stickers n → target n (with_turn m 0) j ≡ j
unfolding target takes layers_of
target_none n m j h k =
    ap (index n) (via_none n (kind_face m.kind) (takes n m) (place n j)) ∙ index-place n j h k

pub toward_within : (n : ℕ) (p : Pos) → InCube n p → (f : Face) → toward n p f ≤ 2 * n
toward_within n p h U = h.y_in
toward_within n p h R = h.x_in
toward_within n p h F = h.z_in
toward_within n p h D = omega arith
toward_within n p h L = omega arith
toward_within n p h B = omega arith

-- the layers of a move are within the cube
pub layers_most : {n : ℕ} (m : Move) → 1 ≤ n → m.width ≤ n → layers_of n m ≤ n
unfolding layers_of
layers_most {n} m z w =
    bool_cases (ltb m.kind 6) (λ t. rw t (omega arith))
    (λ t. bool_cases (ltb m.kind 12) (λ u. rw (t, u) w) (λ u. rw (t, u) (omega arith)))

-- a move takes the layers from `first` on, `count` of them, counted from its face: a sticker on an outer face is in the layer beside it
pub record TakesLayers (n : ℕ) (m : Move) (first count : ℕ) : Type 0 where
  pub within : first + count ≤ n
  pub own_face : (c : ℕ) → c ≡ top n → takes n m c ≡ eqb first 0
  pub line : (p c : ℕ) → p < n → c ≡ mid (n - 1 - p) → takes n m c ≡ (leb first p && ltb p (first + count))
  pub far_face : (c : ℕ) → c ≡ bot → takes n m c ≡ eqb (first + count) n

-- the layers that each move takes are its first
pub takes_first : {n : ℕ} {m : Move} → Sized n → Fair n m → TakesLayers n m 0 (layers_of n m)
unfolding takes
takes_first {n} {m} z f =
    record {
      within = omega (arith, most);
      own_face = λ c e. le-leb (top n) (c + 2 * w) (omega arith);
      line = line_is;
      far_face = far_is;
    }
  where
    w : ℕ
    w = layers_of n m

    most : w ≤ n
    most = layers_most m z.some f.width

    line_is : (p c : ℕ) → p < n → c ≡ mid (n - 1 - p) → takes n m c ≡ (leb 0 p && ltb p (0 + w))
    line_is p c h e =
        rw (le-leb 0 p (omega arith), zero-add w)
        (less_cases p w
        (λ l. le-leb (top n) (c + 2 * w) (omega arith) ∙ sym (lt-ltb p w l))
        (λ l. lt-leb (top n) (c + 2 * w) (omega arith) ∙ sym (le-ltb p w l)))

    far_is : (c : ℕ) → c ≡ bot → takes n m c ≡ eqb (0 + w) n
    far_is c e =
        rw (zero-add w)
        (less_cases w n
        (λ l. lt-leb (top n) (c + 2 * w) (omega arith) ∙ sym (ne_eqb w n (λ d. omega arith)))
        (λ l. le-leb (top n) (c + 2 * w) (omega arith) ∙ sym (eq-eqb w n (omega (arith, most)))))
