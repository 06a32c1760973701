-- Places of stickers. The rules write a coordinate between -n and n; here n is added to each, so that all are natural numbers:
-- their n is `top n`, their -n is `bot`, their -x is `neg n x`, and their -n+1, -n+3, .., n-1 are `mid 0`, `mid 1`, .., `mid (n - 1)`.
use Rattle.std.specs.Prelude.{ℕ, zero, suc, ◌+◌, ◌-◌, ◌*◌, ◌/◌, ◌%◌, ◌≤◌, eqb}
use Rattle.ground.specs.Choice.{pick}
use Rattle.sticker.specs.declared.Face.{Face}
use Rattle.sticker.specs.declared.Face.TheVariants.{U, R, F, D, L, B}

-- a position
pub record Pos : Type 0 where
  pub x : ℕ
  pub y : ℕ
  pub z : ℕ

-- a place as it is stored
pub record Slot : Type 0 where
  pub face : Face
  pub row : ℕ
  pub col : ℕ

abbrev pub top : ℕ → ℕ
top n = 2 * n

abbrev pub bot : ℕ
bot = 0

abbrev pub neg : ℕ → ℕ → ℕ
neg n c = 2 * n - c

abbrev pub mid : ℕ → ℕ
mid k = 2 * k + 1

abbrev pub at3 : ℕ → ℕ → ℕ → Pos
at3 x y z = record { x = x; y = y; z = z }

-- every coordinate is between -n and n
pub record InCube (n : ℕ) (p : Pos) : Type 0 where
  pub x_in : p.x ≤ top n
  pub y_in : p.y ≤ top n
  pub z_in : p.z ≤ top n

-- x=n R, x=-n L, y=n U, y=-n D, z=n F, z=-n B: the face of a sticker's place, which lies on exactly one
abbrev pub face_of : ℕ → Pos → Face
face_of n p =
    pick (eqb p.x (top n)) R
    (pick (eqb p.x bot) L
    (pick (eqb p.y (top n)) U
    (pick (eqb p.y bot) D
    (pick (eqb p.z (top n)) F B))))

-- faces are stored in the order U R F D L B
abbrev pub num_of : Face → ℕ
num_of U = 0
num_of R = 1
num_of F = 2
num_of D = 3
num_of L = 4
num_of B = 5

abbrev pub nth_face : ℕ → Face
nth_face zero = U
nth_face (suc zero) = R
nth_face (suc (suc zero)) = F
nth_face (suc (suc (suc zero))) = D
nth_face (suc (suc (suc (suc zero)))) = L
nth_face (suc (suc (suc (suc (suc k))))) = B

-- rows of z first, then x, both rising, starting from (x, n, z); the place of that row and column of each face
abbrev pub seat : ℕ → Face → ℕ → ℕ → Pos
seat n U x z = at3 x (top n) z
seat n R x z = at3 (top n) (neg n z) (neg n x)
seat n F x z = at3 x (neg n z) (top n)
seat n D x z = at3 x bot (neg n z)
seat n L x z = at3 bot (neg n z) x
seat n B x z = at3 (neg n x) (neg n z) bot

abbrev pub place_of : ℕ → Slot → Pos
place_of n s = seat n s.face (mid s.col) (mid s.row)

-- the column x and the row z from which `seat` gives p
abbrev pub col_on : ℕ → Face → Pos → ℕ
col_on n U p = p.x
col_on n R p = neg n p.z
col_on n F p = p.x
col_on n D p = p.x
col_on n L p = p.z
col_on n B p = neg n p.x

abbrev pub row_on : ℕ → Face → Pos → ℕ
row_on n U p = p.z
row_on n R p = neg n p.y
row_on n F p = neg n p.y
row_on n D p = neg n p.z
row_on n L p = neg n p.y
row_on n B p = neg n p.y

abbrev pub slot_on : ℕ → Pos → Face → Slot
slot_on n p f = record { face = f; row = row_on n f p / 2; col = col_on n f p / 2 }

abbrev pub slot_of : ℕ → Pos → Slot
slot_of n p = slot_on n p (face_of n p)

-- index and slot: faces in order, rows of a face, columns of a row
abbrev pub flat : ℕ → Slot → ℕ
flat n s = (num_of s.face * n + s.row) * n + s.col

abbrev pub unflat : ℕ → ℕ → Slot
unflat n j = record { face = nth_face (j / n / n); row = j / n % n; col = j % n }

abbrev pub place : ℕ → ℕ → Pos
place n j = place_of n (unflat n j)

abbrev pub index : ℕ → Pos → ℕ
index n p = flat n (slot_of n p)
