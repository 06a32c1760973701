-- What the rules say of positions, turns, layers and rotations, as statements in the rules' own coordinates, whole numbers from -n to n.
-- A coordinate is held with n added; `signed n c` is the one that it stands for.
use Rattle.std.specs.Prelude.{ℕ, zero, suc, ◌+◌, ◌*◌, ◌<◌, ◌≤◌, ◌≡◌, true, ◌⊎◌, ◌↔◌, List, get_or, ℤ, pos, neg_ℤ, ◌+ℤ◌}
use Rattle.std.proofs.Math.IntN.{sub_ℕ}
use Rattle.generic_cube.specs.declared.Move.{Move}
use Rattle.generic_cube.specs.Sizes.{stickers}
use Rattle.sticker.specs.declared.Face.{Face}
use Rattle.sticker.specs.declared.Face.TheVariants.{U, R, F, D, L, B}
use Rattle.sticker.specs.Place.{Pos, top, mid, seat, face_of, place, index, InCube}
use Rattle.geometric_moves.specs.declared.Rotation.{Rotation}
use Rattle.geometric_moves.specs.Turn.{toward, rotate, identity, opposite, rot_x, rot_y, rot_z, then_rot, inverse_rot, turn_of, kind_face, layers_of, takes, turned, moved}

-- the whole number c - n
abbrev pub signed : ℕ → ℕ → ℤ
signed n c = sub_ℕ c n

-- a position as the rules write it
pub record Point : Type 0 where
  pub x : ℤ
  pub y : ℤ
  pub z : ℤ

abbrev pub point : ℤ → ℤ → ℤ → Point
point a b c = record { x = a; y = b; z = c }

abbrev pub point_of : ℕ → Pos → Point
point_of n p = point (signed n p.x) (signed n p.y) (signed n p.z)

-- a ≤ b for whole numbers: some natural number added to a gives b
pub record AtMost (a b : ℤ) : Type 0 where
  pub gap : ℕ
  pub reached : a +ℤ pos gap ≡ b

-- ---- positions

-- rows and columns are -n+1, -n+3, .., n-1
abbrev pub RowsRise : Type 0
RowsRise = (n k : ℕ) → signed n (mid k) ≡ neg_ℤ (pos n) +ℤ pos (2 * k + 1)

-- a sticker stands at (x, y, z): one coordinate is n or -n, the other two are among -n+1, -n+3, .., n-1
abbrev pub Outer : ℕ → ℤ → Type 0
Outer n a = (a ≡ pos n) ⊎ (a ≡ neg_ℤ (pos n))

pub record Across (n : ℕ) (a : ℤ) : Type 0 where
  pub line : ℕ
  pub below : line < n
  pub is : a ≡ neg_ℤ (pos n) +ℤ pos (2 * line + 1)

abbrev pub StickerPoint : ℕ → Point → Type 0
StickerPoint n q =
    (Outer n q.x × Across n q.y × Across n q.z)
    ⊎ ((Across n q.x × Outer n q.y × Across n q.z)
    ⊎ (Across n q.x × Across n q.y × Outer n q.z))

-- each of these positions is stored, and nothing else is
abbrev pub PositionsStored : Type 0
PositionsStored = (n : ℕ) (q : Point) → 0 < n → StickerPoint n q ↔ ((j : ℕ) × (j < stickers n) × (point_of n (place n j) ≡ q))

-- row z and column x stand at U (x, n, z), R (n, -z, -x), F (x, -z, n), D (x, -n, -z), L (-n, -z, x), B (-x, -z, -n)
abbrev pub seat_point : ℕ → Face → ℤ → ℤ → Point
seat_point n U x z = point x (pos n) z
seat_point n R x z = point (pos n) (neg_ℤ z) (neg_ℤ x)
seat_point n F x z = point x (neg_ℤ z) (pos n)
seat_point n D x z = point x (neg_ℤ (pos n)) (neg_ℤ z)
seat_point n L x z = point (neg_ℤ (pos n)) (neg_ℤ z) x
seat_point n B x z = point (neg_ℤ x) (neg_ℤ z) (neg_ℤ (pos n))

abbrev pub FacesStand : Type 0
FacesStand = (n : ℕ) (f : Face) (x z : ℕ) → x ≤ top n → z ≤ top n → point_of n (seat n f x z) ≡ seat_point n f (signed n x) (signed n z)

-- x=n R, x=-n L, y=n U, y=-n D, z=n F, z=-n B
abbrev pub LiesOn : ℕ → Face → Point → Type 0
LiesOn n R q = q.x ≡ pos n
LiesOn n L q = q.x ≡ neg_ℤ (pos n)
LiesOn n U q = q.y ≡ pos n
LiesOn n D q = q.y ≡ neg_ℤ (pos n)
LiesOn n F q = q.z ≡ pos n
LiesOn n B q = q.z ≡ neg_ℤ (pos n)

-- a sticker's place lies on one face, the one that its coordinates say
abbrev pub FacesTold : Type 0
FacesTold = (n j : ℕ) (f : Face) → 0 < n → (face_of n (place n j) ≡ f) ↔ LiesOn n f (point_of n (place n j))

-- a position that lies on a face, and on no second
pub record OneFace (n : ℕ) (q : Point) : Type 0 where
  pub face : Face
  pub on : LiesOn n face q
  pub only : (g : Face) → LiesOn n g q → g ≡ face

-- the source finds the places of a face by rotating the top face: not at all for U, by X' Y' for R, X' for F, X2 for D, X' Y for L and
-- X' Y2 for B; the rules' places are the same
unfoldable pub from_top : Face → Rotation
from_top U = identity
from_top R = then_rot (turn_of 3 rot_x) (turn_of 3 rot_y)
from_top F = turn_of 3 rot_x
from_top D = turn_of 2 rot_x
from_top L = then_rot (turn_of 3 rot_x) rot_y
from_top B = then_rot (turn_of 3 rot_x) (turn_of 2 rot_y)

abbrev pub FacesFromTop : Type 0
FacesFromTop = (n : ℕ) (f : Face) (x z : ℕ) → x ≤ top n → z ≤ top n → seat n f x z ≡ rotate n (from_top f) (seat n U x z)

-- ---- turns

-- X sends (x, y, z) to (x, z, -y)
abbrev pub QuarterX : Type 0
QuarterX = (n : ℕ) (p : Pos) → InCube n p
    → point_of n (rotate n rot_x p) ≡ point (point_of n p).x (point_of n p).z (neg_ℤ (point_of n p).y)

-- Y sends it to (-z, y, x)
abbrev pub QuarterY : Type 0
QuarterY = (n : ℕ) (p : Pos) → InCube n p
    → point_of n (rotate n rot_y p) ≡ point (neg_ℤ (point_of n p).z) (point_of n p).y (point_of n p).x

-- Z sends it to (y, -x, z)
abbrev pub QuarterZ : Type 0
QuarterZ = (n : ℕ) (p : Pos) → InCube n p
    → point_of n (rotate n rot_z p) ≡ point (point_of n p).y (neg_ℤ (point_of n p).x) (point_of n p).z

-- U, R, F turn as Y, X, Z; D, L, B as their inverses
abbrev pub quarter_point : Face → Point → Point
quarter_point U q = point (neg_ℤ q.z) q.y q.x
quarter_point R q = point q.x q.z (neg_ℤ q.y)
quarter_point F q = point q.y (neg_ℤ q.x) q.z
quarter_point D q = point q.z q.y (neg_ℤ q.x)
quarter_point L q = point q.x (neg_ℤ q.z) q.y
quarter_point B q = point (neg_ℤ q.y) q.x q.z

abbrev pub QuarterUndone : Type 0
QuarterUndone = (f : Face) (q : Point) → quarter_point (opposite f) (quarter_point f q) ≡ q

-- turn 2 is two quarters, 3 is three
abbrev pub turn_point : ℕ → Face → Point → Point
turn_point zero f q = q
turn_point (suc t) f q = quarter_point f (turn_point t f q)

-- ---- layers

-- with width w U takes y ≥ n-2w, D takes y ≤ -n+2w; R and L the same in x, F and B in z
abbrev pub InLayers : ℕ → Face → ℕ → Point → Type 0
InLayers n U w q = AtMost (sub_ℕ n (2 * w)) q.y
InLayers n R w q = AtMost (sub_ℕ n (2 * w)) q.x
InLayers n F w q = AtMost (sub_ℕ n (2 * w)) q.z
InLayers n D w q = AtMost q.y (sub_ℕ (2 * w) n)
InLayers n L w q = AtMost q.x (sub_ℕ (2 * w) n)
InLayers n B w q = AtMost q.z (sub_ℕ (2 * w) n)

abbrev pub LayersTaken : Type 0
LayersTaken = (n : ℕ) (m : Move) (p : Pos) → InCube n p
    → (takes n m (toward n p (kind_face m.kind)) ≡ true) ↔ InLayers n (kind_face m.kind) (layers_of n m) (point_of n p)

-- X, Y, Z take every sticker
abbrev pub WholeTaken : Type 0
WholeTaken = (n : ℕ) (m : Move) (p : Pos) → 12 ≤ m.kind → takes n m (toward n p (kind_face m.kind)) ≡ true

-- a move turns what its layers take by its turn's quarters; every other sticker stays
abbrev pub TakenTurn : Type 0
TakenTurn = (n : ℕ) (m : Move) (p : Pos) → InCube n p → InLayers n (kind_face m.kind) (layers_of n m) (point_of n p)
    → point_of n (turned n m p) ≡ turn_point m.turn (kind_face m.kind) (point_of n p)

abbrev pub OthersStay : Type 0
OthersStay = (n : ℕ) (m : Move) (p : Pos) → InCube n p → (InLayers n (kind_face m.kind) (layers_of n m) (point_of n p) → ⊥) → turned n m p ≡ p

-- a sticker's position, turned by any move, is a sticker's position and lies on exactly one face: at every size above 0, so at those from
-- 1 to 104, for every move, so for every code that is taken, and every index
abbrev pub TurnedOnOneFace : Type 0
TurnedOnOneFace = (n : ℕ) (m : Move) (j : ℕ) → 0 < n
    → StickerPoint n (point_of n (turned n m (place n j))) × OneFace n (point_of n (turned n m (place n j)))

-- every place of a sticker is in the cube, and a turned one is the place of a sticker again
abbrev pub PlacesKept : Type 0
PlacesKept = (n : ℕ) (m : Move) (j : ℕ) → 0 < n → InCube n (place n j) × (place n (index n (turned n m (place n j))) ≡ turned n m (place n j))

-- the sticker at the old place goes to the turned place
abbrev pub StickersGo : Type 0
StickersGo = (n : ℕ) (m : Move) (cube : List ℕ) (j : ℕ) → 0 < n → m.turn ≤ 4 → j < stickers n
    → get_or (moved n m cube) (index n (turned n m (place n j))) 0 ≡ get_or cube j 0

-- each index of the new cube is fixed by this: it is the index of a turned place
abbrev pub EachIndexFixed : Type 0
EachIndexFixed = (n : ℕ) (m : Move) (i : ℕ) → 0 < n → m.turn ≤ 4 → i < stickers n → (j : ℕ) × (j < stickers n) × (index n (turned n m (place n j)) ≡ i)

-- ---- rotations

-- the rotations of the cube: whatever X, Y and Z make
pub data Made : Rotation → Type 0 where
  none : Made identity
  by_x : {r : Rotation} → Made r → Made (then_rot r rot_x)
  by_y : {r : Rotation} → Made r → Made (then_rot r rot_y)
  by_z : {r : Rotation} → Made r → Made (then_rot r rot_z)

-- the inverse of each undoes it, after and before
abbrev pub InverseAfter : Type 0
InverseAfter = (r : Rotation) → Made r → then_rot r (inverse_rot r) ≡ identity

abbrev pub InverseBefore : Type 0
InverseBefore = (r : Rotation) → Made r → then_rot (inverse_rot r) r ≡ identity
