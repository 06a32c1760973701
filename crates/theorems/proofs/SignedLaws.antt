-- The rules' own coordinates: what the definitions, which hold a coordinate with n added, say of whole numbers.
use Prim.Native.Nat.{ℕ, zero, suc, ◌+◌, ◌-◌, ◌*◌, ◌%◌, ◌<◌, ◌≤◌}
use mathlib.Core.Path.{◌≡◌, refl, ap, sym, subst, ◌∙◌}
use mathlib.Core.Bool.{true, cond}
use mathlib.Core.Logic.{◌↔◌, inl, inr}
use native.Mathlib.Omega.{arith}
use native.Mathlib.Nat.{zero-add}
use native.Mathlib.Decide.{dec_lt}
use lib.IntN.{ℤ, pos, negsuc, neg_ℤ, sub_ℕ, ◌+ℤ◌}
use borrow.Author.Tests.{lt-ltb, le-ltb, le-leb, leb-true}
use Rattle.ground.proofs.ChoiceLaws.{bool_cases}
use Rattle.generic_cube.specs.declared.Move.{Move}
use Rattle.generic_cube.specs.Sizes.{stickers}
use Rattle.generic_cube.specs.Code.{back}
use Rattle.sticker.specs.declared.Face.{Face}
use Rattle.sticker.specs.declared.Face.TheVariants.{U, R, F, D, L, B}
use Rattle.sticker.specs.Place.{Pos, Slot, top, bot, neg, mid, seat, face_of, place_of, flat, unflat, place, InCube}
use Rattle.sticker.proofs.PlaceLaws.{Sticker, face_seat, unflat-flat, flat_below, unflat_real, place_sticker, place-index, sticker_in}
use Rattle.geometric_moves.specs.declared.Rotation.{Rotation}
use Rattle.geometric_moves.specs.Turn.{toward, rotate, same_face, whither, inverse_rot, turn_of, quarter_of, kind_face, layers_of, takes, turned, target, source}
use Rattle.geometric_moves.proofs.RotationLaws.{rotate_then}
use Rattle.geometric_moves.proofs.TurnLaws.{seat-toward, toward_within, turned_sticker, target_below, target-add, target_none}
use Rattle.geometric_moves.proofs.MovedLaws.{moved-target}
use Rattle.theorems.specs.Geometry.{signed, Point, point, point_of, AtMost, RowsRise, FacesStand, Across, StickerPoint, PositionsStored, LiesOn, FacesTold, OneFace, QuarterX, QuarterY, QuarterZ, quarter_point, QuarterUndone, turn_point, InLayers, LayersTaken, WholeTaken, TakenTurn, OthersStay, TurnedOnOneFace, PlacesKept, StickersGo, EachIndexFixed}

-- differences of natural numbers as whole numbers

sub_lt : (a b : ℕ) → a < b → sub_ℕ a b ≡ negsuc (b - suc a)
sub_lt a b h = ap (λ t. cond t (negsuc (b - suc a)) (pos (a - b))) (lt-ltb a b h)

sub_ge : (a b : ℕ) → b ≤ a → sub_ℕ a b ≡ pos (a - b)
sub_ge a b h = ap (λ t. cond t (negsuc (b - suc a)) (pos (a - b))) (le-ltb a b h)

-- a - b is c - d where a + d is c + b, and only there
sub_eq : (a b c d : ℕ) → a + d ≡ c + b → sub_ℕ a b ≡ sub_ℕ c d
sub_eq a b c d e = go (dec_lt a b)
  where
    go : Dec (a < b) → sub_ℕ a b ≡ sub_ℕ c d
    go (yes l) = sub_lt a b l ∙ ap negsuc {x = b - suc a} {y = d - suc c} (omega arith) ∙ sym (sub_lt c d (omega arith))
    go (no l) = sub_ge a b (omega arith) ∙ ap pos {x = a - b} {y = c - d} (omega arith) ∙ sym (sub_ge c d (omega arith))

sub_only : (a b c d : ℕ) → sub_ℕ a b ≡ sub_ℕ c d → a + d ≡ c + b
sub_only a b c d e = go (dec_lt a b) (dec_lt c d)
  where
    go : Dec (a < b) → Dec (c < d) → a + d ≡ c + b
    go (yes l) (yes k) =
        let q : negsuc (b - suc a) ≡ negsuc (d - suc c) = sym (sub_lt a b l) ∙ e ∙ sub_lt c d k in
        let r : b - suc a ≡ d - suc c = cc in omega arith
    go (no l) (no k) =
        let q : pos (a - b) ≡ pos (c - d) = sym (sub_ge a b (omega arith)) ∙ e ∙ sub_ge c d (omega arith) in
        let r : a - b ≡ c - d = cc in omega arith
    go (yes l) (no k) =
        let q : negsuc (b - suc a) ≡ pos (c - d) = sym (sub_lt a b l) ∙ e ∙ sub_ge c d (omega arith) in
        let r : ◌≡◌ {A = ℕ} 0 1 = cc in absurd (omega arith)
    go (no l) (yes k) =
        let q : pos (a - b) ≡ negsuc (d - suc c) = sym (sub_ge a b (omega arith)) ∙ e ∙ sub_lt c d k in
        let r : ◌≡◌ {A = ℕ} 0 1 = cc in absurd (omega arith)

neg_zero : (a : ℕ) → a ≡ 0 → neg_ℤ (pos a) ≡ pos 0
neg_zero a e = ap (λ k. neg_ℤ (pos k)) e

neg_suc : (a b : ℕ) → a ≡ suc b → neg_ℤ (pos a) ≡ negsuc b
neg_suc a b e = ap (λ k. neg_ℤ (pos k)) e

-- the negative of a - b is b - a
sub-neg : (a b : ℕ) → neg_ℤ (sub_ℕ a b) ≡ sub_ℕ b a
sub-neg a b = go (dec_lt a b) (dec_lt b a)
  where
    go : Dec (a < b) → Dec (b < a) → neg_ℤ (sub_ℕ a b) ≡ sub_ℕ b a
    go (yes l) k = ap neg_ℤ (sub_lt a b l) ∙ ap pos {x = suc (b - suc a)} {y = b - a} (omega arith) ∙ sym (sub_ge b a (omega arith))
    go (no l) (yes k) = ap neg_ℤ (sub_ge a b (omega arith)) ∙ neg_suc (a - b) (a - suc b) (omega arith) ∙ sym (sub_lt b a k)
    go (no l) (no k) =
        ap neg_ℤ (sub_ge a b (omega arith)) ∙ neg_zero (a - b) (omega arith) ∙ ap pos {x = 0} {y = b - a} (omega arith) ∙ sym (sub_ge b a (omega arith))

-- ---- the three forms of a coordinate: n, -n, and -x

signed_top : (n : ℕ) → signed n (top n) ≡ pos n
signed_top n = sub_ge (2 * n) n (omega arith) ∙ ap pos {x = 2 * n - n} {y = n} (omega arith)

signed-bot : (n : ℕ) → signed n bot ≡ neg_ℤ (pos n)
signed-bot n = sym (sub-neg n 0) ∙ ap neg_ℤ (sub_ge n 0 (omega arith) ∙ ap pos {x = n - 0} {y = n} (omega arith))

signed-neg : (n c : ℕ) → c ≤ 2 * n → signed n (neg n c) ≡ neg_ℤ (signed n c)
signed-neg n c h = sub_eq (2 * n - c) n n c (omega arith) ∙ sym (sub-neg c n)

sub-add : (a b k : ℕ) → sub_ℕ a b +ℤ pos k ≡ sub_ℕ (a + k) b
sub-add a b k = go (dec_lt a b)
  where
    go : Dec (a < b) → sub_ℕ a b +ℤ pos k ≡ sub_ℕ (a + k) b
    go (yes l) = ap (λ z. z +ℤ pos k) (sub_lt a b l) ∙ sub_eq k (suc (b - suc a)) (a + k) b (omega arith)
    go (no l) =
        ap (λ z. z +ℤ pos k) (sub_ge a b (omega arith)) ∙ ap pos {x = a - b + k} {y = a + k - b} (omega arith) ∙ sym (sub_ge (a + k) b (omega arith))

at_most : (a b c d : ℕ) → a + d ≤ c + b → AtMost (sub_ℕ a b) (sub_ℕ c d)
at_most a b c d h = record { gap = c + b - (a + d); reached = sub-add a b (c + b - (a + d)) ∙ sub_eq (a + (c + b - (a + d))) b c d (omega arith) }

at_most_only : (a b c d : ℕ) → AtMost (sub_ℕ a b) (sub_ℕ c d) → a + d ≤ c + b
at_most_only a b c d m = omega (arith, sub_only (a + m.gap) b c d (sym (sub-add a b m.gap) ∙ m.reached))

-- ---- positions

pub rows_rise : RowsRise
rows_rise n k =
    ap (λ c. sub_ℕ c n) (sym (zero-add (2 * k + 1))) ∙ sym (sub-add 0 n (2 * k + 1)) ∙ ap (λ z. z +ℤ pos (2 * k + 1)) (signed-bot n)

pub faces_stand : FacesStand
faces_stand n U x z hx hz = λ i. point (signed n x) (signed_top n i) (signed n z)
faces_stand n R x z hx hz = λ i. point (signed_top n i) (signed-neg n z hz i) (signed-neg n x hx i)
faces_stand n F x z hx hz = λ i. point (signed n x) (signed-neg n z hz i) (signed_top n i)
faces_stand n D x z hx hz = λ i. point (signed n x) (signed-bot n i) (signed-neg n z hz i)
faces_stand n L x z hx hz = λ i. point (signed-bot n i) (signed-neg n z hz i) (signed n x)
faces_stand n B x z hx hz = λ i. point (signed-neg n x hx i) (signed-neg n z hz i) (signed-bot n i)

-- a position lies on a face exactly if its coordinate towards it is n

module _ (n : ℕ) (p : Pos) (h : InCube n p) where
  top_told : (c : ℕ) → c ≡ top n → signed n c ≡ pos n
  top_told c e = ap (signed n) e ∙ signed_top n

  told_top : (c : ℕ) → signed n c ≡ pos n → c ≡ top n
  told_top c e = let z = sub_only c n (2 * n) n (e ∙ sym (signed_top n)) in omega arith

  bot_told : (c : ℕ) → c ≤ top n → neg n c ≡ top n → signed n c ≡ neg_ℤ (pos n)
  bot_told c l e = ap (signed n) {x = c} {y = 0} (omega arith) ∙ signed-bot n

  told_bot : (c : ℕ) → signed n c ≡ neg_ℤ (pos n) → neg n c ≡ top n
  told_bot c e = let z = sub_only c n 0 n (e ∙ sym (signed-bot n)) in omega arith

  toward_lies : (f : Face) → toward n p f ≡ top n → LiesOn n f (point_of n p)
  toward_lies U = top_told p.y
  toward_lies R = top_told p.x
  toward_lies F = top_told p.z
  toward_lies D = bot_told p.y h.y_in
  toward_lies L = bot_told p.x h.x_in
  toward_lies B = bot_told p.z h.z_in

  lies_toward : (f : Face) → LiesOn n f (point_of n p) → toward n p f ≡ top n
  lies_toward U = told_top p.y
  lies_toward R = told_top p.x
  lies_toward F = told_top p.z
  lies_toward D = told_bot p.y
  lies_toward L = told_bot p.x
  lies_toward B = told_bot p.z

-- a sticker's coordinate is n towards its own face (`seat-toward`) and towards no other
no_other : (n : ℕ) (f g : Face) (c r : ℕ) → c < n → r < n → toward n (seat n g (mid c) (mid r)) f ≡ top n → g ≡ f
no_other n U U c r hc hr e = refl
no_other n U R c r hc hr e = absurd (omega arith)
no_other n U F c r hc hr e = absurd (omega arith)
no_other n U D c r hc hr e = absurd (omega arith)
no_other n U L c r hc hr e = absurd (omega arith)
no_other n U B c r hc hr e = absurd (omega arith)
no_other n R U c r hc hr e = absurd (omega arith)
no_other n R R c r hc hr e = refl
no_other n R F c r hc hr e = absurd (omega arith)
no_other n R D c r hc hr e = absurd (omega arith)
no_other n R L c r hc hr e = absurd (omega arith)
no_other n R B c r hc hr e = absurd (omega arith)
no_other n F U c r hc hr e = absurd (omega arith)
no_other n F R c r hc hr e = absurd (omega arith)
no_other n F F c r hc hr e = refl
no_other n F D c r hc hr e = absurd (omega arith)
no_other n F L c r hc hr e = absurd (omega arith)
no_other n F B c r hc hr e = absurd (omega arith)
no_other n D U c r hc hr e = absurd (omega arith)
no_other n D R c r hc hr e = absurd (omega arith)
no_other n D F c r hc hr e = absurd (omega arith)
no_other n D D c r hc hr e = refl
no_other n D L c r hc hr e = absurd (omega arith)
no_other n D B c r hc hr e = absurd (omega arith)
no_other n L U c r hc hr e = absurd (omega arith)
no_other n L R c r hc hr e = absurd (omega arith)
no_other n L F c r hc hr e = absurd (omega arith)
no_other n L D c r hc hr e = absurd (omega arith)
no_other n L L c r hc hr e = refl
no_other n L B c r hc hr e = absurd (omega arith)
no_other n B U c r hc hr e = absurd (omega arith)
no_other n B R c r hc hr e = absurd (omega arith)
no_other n B F c r hc hr e = absurd (omega arith)
no_other n B D c r hc hr e = absurd (omega arith)
no_other n B L c r hc hr e = absurd (omega arith)
no_other n B B c r hc hr e = refl

-- a sticker's place is a sticker's position, and lies on one face alone

module _ (n k : ℕ) (h : k < n) where
  across : Across n (signed n (mid k))
  across = record { line = k; below = h; is = rows_rise n k }

  across_neg : Across n (signed n (neg n (mid k)))
  across_neg =
      record { line = n - 1 - k; below = omega arith; is = ap (signed n) {x = neg n (mid k)} {y = mid (n - 1 - k)} (omega arith) ∙ rows_rise n (n - 1 - k) }

seat-point : (n : ℕ) (f : Face) (c r : ℕ) → c < n → r < n → StickerPoint n (point_of n (seat n f (mid c) (mid r)))
seat-point n U c r hc hr = inr (inl (across n c hc, inl (signed_top n), across n r hr))
seat-point n R c r hc hr = inl (inl (signed_top n), across_neg n r hr, across_neg n c hc)
seat-point n F c r hc hr = inr (inr (across n c hc, across_neg n r hr, inl (signed_top n)))
seat-point n D c r hc hr = inr (inl (across n c hc, inr (signed-bot n), across_neg n r hr))
seat-point n L c r hc hr = inl (inr (signed-bot n), across_neg n r hr, across n c hc)
seat-point n B c r hc hr = inr (inr (across_neg n c hc, across_neg n r hr, inr (signed-bot n)))

module _ (n : ℕ) (f : Face) (c r : ℕ) (hc : c < n) (hr : r < n) (h : InCube n (seat n f (mid c) (mid r))) where
  seat_lies : LiesOn n f (point_of n (seat n f (mid c) (mid r)))
  seat_lies = toward_lies n (seat n f (mid c) (mid r)) h f (seat-toward n f c r)

  seat_only : (g : Face) → LiesOn n g (point_of n (seat n f (mid c) (mid r))) → g ≡ f
  seat_only g l = sym (no_other n g f c r hc hr (lies_toward n (seat n f (mid c) (mid r)) h g l))

pub faces_told : FacesTold
faces_told n j f h =
    let s : Slot = unflat n j in
    let real = unflat_real n j h in
    let inside = sticker_in n (place n j) (place_sticker n j h) in
    let on : face_of n (place n j) ≡ s.face = face_seat n s.face s.col s.row real.col_ok real.row_ok in (
      λ e. subst (λ (g : Face). LiesOn n g (point_of n (place n j))) (sym on ∙ e) (seat_lies n s.face s.col s.row real.col_ok real.row_ok inside),
      λ l. on ∙ sym (seat_only n s.face s.col s.row real.col_ok real.row_ok inside f l),
    )

sticker_one : (n : ℕ) (p : Pos) → Sticker n p → StickerPoint n (point_of n p) × OneFace n (point_of n p)
sticker_one n p s =
    let t : Slot = s.slot in
    let h : InCube n (seat n t.face (mid t.col) (mid t.row)) = subst (InCube n) (sym s.here) (sticker_in n p s) in
    subst (λ (q : Pos). StickerPoint n (point_of n q) × OneFace n (point_of n q)) s.here (
      seat-point n t.face t.col t.row s.real.col_ok s.real.row_ok,
      record {
        face = t.face;
        on = seat_lies n t.face t.col t.row s.real.col_ok s.real.row_ok h;
        only = seat_only n t.face t.col t.row s.real.col_ok s.real.row_ok h;
      },
    )

-- and each such position is the place of an index

module _ {n : ℕ} {a : ℤ} (h : Across n a) where
  straight : signed n (mid h.line) ≡ a
  straight = rows_rise n h.line ∙ sym h.is

  -- the line counted from the other end, negated
  abbrev back_line : ℕ
  back_line = n - 1 - h.line

  back_below : back_line < n
  back_below = omega (arith, h.below)

  negated : signed n (neg n (mid back_line)) ≡ a
  negated = ap (signed n) {x = neg n (mid back_line)} {y = mid h.line} (omega (arith, h.below)) ∙ straight

-- the index of the sticker in column c and row r of face f
stored : {n : ℕ} {q : Point} (f : Face) (c r : ℕ) → c < n → r < n → point_of n (seat n f (mid c) (mid r)) ≡ q
    → (j : ℕ) × (j < stickers n) × (point_of n (place n j) ≡ q)
stored {n} f c r hc hr e =
    let s : Slot = record { face = f; row = r; col = c } in
    (flat n s, flat_below n s hc hr, ap (λ (t : Slot). point_of n (place_of n t)) (unflat-flat n s hc hr) ∙ e)

point_stored : (n : ℕ) (q : Point) → StickerPoint n q → (j : ℕ) × (j < stickers n) × (point_of n (place n j) ≡ q)
point_stored n q (inl (inl e, y, z)) =
    stored R (back_line z) (back_line y) (back_below z) (back_below y) (λ i. point ((signed_top n ∙ sym e) i) (negated y i) (negated z i))
point_stored n q (inl (inr e, y, z)) =
    stored L z.line (back_line y) z.below (back_below y) (λ i. point ((signed-bot n ∙ sym e) i) (negated y i) (straight z i))
point_stored n q (inr (inl (x, inl e, z))) =
    stored U x.line z.line x.below z.below (λ i. point (straight x i) ((signed_top n ∙ sym e) i) (straight z i))
point_stored n q (inr (inl (x, inr e, z))) =
    stored D x.line (back_line z) x.below (back_below z) (λ i. point (straight x i) ((signed-bot n ∙ sym e) i) (negated z i))
point_stored n q (inr (inr (x, y, inl e))) =
    stored F x.line (back_line y) x.below (back_below y) (λ i. point (straight x i) (negated y i) ((signed_top n ∙ sym e) i))
point_stored n q (inr (inr (x, y, inr e))) =
    stored B (back_line x) (back_line y) (back_below x) (back_below y) (λ i. point (negated x i) (negated y i) ((signed-bot n ∙ sym e) i))

pub positions_stored : PositionsStored
positions_stored n q h =
    (point_stored n q, λ p. subst (StickerPoint n) p.2 (sticker_one n (place n p.0) (place_sticker n p.0 h)).0)

-- ---- quarter turns

pub quarter_x : QuarterX
quarter_x n p h = λ i. point (point_of n p).x (point_of n p).z (signed-neg n p.y h.y_in i)

pub quarter_y : QuarterY
quarter_y n p h = λ i. point (signed-neg n p.z h.z_in i) (point_of n p).y (point_of n p).x

pub quarter_z : QuarterZ
quarter_z n p h = λ i. point (point_of n p).y (signed-neg n p.x h.x_in i) (point_of n p).z

neg-twice : (a : ℤ) → neg_ℤ (neg_ℤ a) ≡ a
neg-twice (pos zero) = refl
neg-twice (pos (suc a)) = refl
neg-twice (negsuc a) = refl

pub quarter_undone : QuarterUndone
quarter_undone U q = λ i. point q.x q.y (neg-twice q.z i)
quarter_undone R q = λ i. point q.x (neg-twice q.y i) q.z
quarter_undone F q = λ i. point (neg-twice q.x i) q.y q.z
quarter_undone D q = λ i. point (neg-twice q.x i) q.y q.z
quarter_undone L q = λ i. point q.x q.y (neg-twice q.z i)
quarter_undone B q = λ i. point q.x (neg-twice q.y i) q.z

-- a quarter as each face turns, and any number of them
quarter_point_lem : (n : ℕ) (f : Face) (p : Pos) → InCube n p → point_of n (rotate n (quarter_of f) p) ≡ quarter_point f (point_of n p)
unfolding quarter_of inverse_rot whither same_face
quarter_point_lem n U p h = quarter_y n p h
quarter_point_lem n R p h = quarter_x n p h
quarter_point_lem n F p h = quarter_z n p h
quarter_point_lem n D p h = λ i. point (point_of n p).z (point_of n p).y (signed-neg n p.x h.x_in i)
quarter_point_lem n L p h = λ i. point (point_of n p).x (signed-neg n p.z h.z_in i) (point_of n p).y
quarter_point_lem n B p h = λ i. point (signed-neg n p.y h.y_in i) (point_of n p).x (point_of n p).z

rotate_in : (n : ℕ) (r : Rotation) (p : Pos) → InCube n p → InCube n (rotate n r p)
rotate_in n r p h =
    record { x_in = toward_within n p h r.x; y_in = toward_within n p h r.y; z_in = toward_within n p h r.z }

turn_point_lem : (n t : ℕ) (f : Face) (p : Pos) → InCube n p → point_of n (rotate n (turn_of t (quarter_of f)) p) ≡ turn_point t f (point_of n p)
unfolding turn_of
turn_point_lem n zero f p h = refl
turn_point_lem n (suc t) f p h =
    ap (point_of n) (sym (rotate_then n p h (turn_of t (quarter_of f)) (quarter_of f)))
    ∙ quarter_point_lem n f (rotate n (turn_of t (quarter_of f)) p) (rotate_in n (turn_of t (quarter_of f)) p h)
    ∙ ap (quarter_point f) (turn_point_lem n t f p h)

-- ---- layers: the coordinate c towards the face, and c on the other side of it

module _ (n : ℕ) (m : Move) (c : ℕ) where
  takes_up : takes n m c ≡ true → AtMost (sub_ℕ n (2 * layers_of n m)) (signed n c)
  unfolding takes
  takes_up e = at_most n (2 * layers_of n m) c n (omega (arith, leb-true (2 * n) (c + 2 * layers_of n m) e))

  up_takes : AtMost (sub_ℕ n (2 * layers_of n m)) (signed n c) → takes n m c ≡ true
  unfolding takes
  up_takes a = le-leb (2 * n) (c + 2 * layers_of n m) (omega (arith, at_most_only n (2 * layers_of n m) c n a))

  takes_down : c ≤ 2 * n → takes n m (neg n c) ≡ true → AtMost (signed n c) (sub_ℕ (2 * layers_of n m) n)
  unfolding takes
  takes_down h e = at_most c n (2 * layers_of n m) n (omega (arith, leb-true (2 * n) (2 * n - c + 2 * layers_of n m) e))

  down_takes : c ≤ 2 * n → AtMost (signed n c) (sub_ℕ (2 * layers_of n m) n) → takes n m (neg n c) ≡ true
  unfolding takes
  down_takes h a = le-leb (2 * n) (2 * n - c + 2 * layers_of n m) (omega (arith, at_most_only c n (2 * layers_of n m) n a))

pub layers_taken : LayersTaken
layers_taken n m p h = by (kind_face m.kind)
  where
    by : (f : Face) → (takes n m (toward n p f) ≡ true) ↔ InLayers n f (layers_of n m) (point_of n p)
    by U = (takes_up n m p.y, up_takes n m p.y)
    by R = (takes_up n m p.x, up_takes n m p.x)
    by F = (takes_up n m p.z, up_takes n m p.z)
    by D = (takes_down n m p.y h.y_in, down_takes n m p.y h.y_in)
    by L = (takes_down n m p.x h.x_in, down_takes n m p.x h.x_in)
    by B = (takes_down n m p.z h.z_in, down_takes n m p.z h.z_in)

pub whole_taken : WholeTaken
unfolding takes layers_of
whole_taken n m p h =
    rw (le-ltb m.kind 6 (omega arith), le-ltb m.kind 12 h) (le-leb (2 * n) (toward n p (kind_face m.kind) + 2 * n) (omega arith))

pub taken_turn : TakenTurn
taken_turn n m p h l =
    rw ((layers_taken n m p h).1 l) (turn_point_lem n m.turn (kind_face m.kind) p h)

pub others_stay : OthersStay
others_stay n m p h l =
    bool_cases (takes n m (toward n p (kind_face m.kind))) (λ t. absurd (l ((layers_taken n m p h).0 t))) (λ t. rw t)

pub turned_on_one_face : TurnedOnOneFace
turned_on_one_face n m j h = sticker_one n (turned n m (place n j)) (turned_sticker n m (place n j) (place_sticker n j h))

pub places_kept : PlacesKept
places_kept n m j h =
    let s = place_sticker n j h in
    (sticker_in n (place n j) s, place-index n (turned n m (place n j)) (turned_sticker n m (place n j) s))

pub stickers_go : StickersGo
stickers_go = moved-target

pub each_index_fixed : EachIndexFixed
unfolding target source
each_index_fixed n m i h t k = (
  source n m i,
  target_below n (back m) i h,
  target-add n m (4 - m.turn) m.turn 0 i h (ap (λ (x : ℕ). x % 4) {x = 4 - m.turn + m.turn} {y = 4} (omega arith)) ∙ target_none n m i h k,
)
