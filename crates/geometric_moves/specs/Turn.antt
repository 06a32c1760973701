-- Rotations, layers, and what a move does to a place, to an index and to a cube.
use Rattle.std.specs.Prelude.{ℕ, zero, suc, ◌+◌, ◌-◌, ◌*◌, ◌%◌, Bool, List, [], ◌∷◌, ltb, leb, eqb, get_or}
use Rattle.ground.specs.Choice.{pick}
use Rattle.ground.specs.Lists.{tabulate}
use Rattle.generic_cube.specs.declared.Move.{Move}
use Rattle.generic_cube.specs.Sizes.{stickers}
use Rattle.generic_cube.specs.Code.{move_of, back}
use Rattle.sticker.specs.declared.Face.{Face}
use Rattle.sticker.specs.declared.Face.TheVariants.{U, R, F, D, L, B}
use Rattle.sticker.specs.Place.{Pos, top, neg, at3, num_of, place, index}
use Rattle.geometric_moves.specs.declared.Rotation.{Rotation}

-- the coordinate of p along the half axis that points to a face
abbrev pub toward : ℕ → Pos → Face → ℕ
toward n p U = p.y
toward n p R = p.x
toward n p F = p.z
toward n p D = neg n p.y
toward n p L = neg n p.x
toward n p B = neg n p.z

-- a rotation holds, for each axis, the half axis whose coordinate becomes the new coordinate
abbrev pub rotate : ℕ → Rotation → Pos → Pos
rotate n r p = at3 (toward n p r.x) (toward n p r.y) (toward n p r.z)

abbrev pub rot : Face → Face → Face → Rotation
rot a b c = record { x = a; y = b; z = c }

abbrev pub identity : Rotation
identity = rot R U F

-- quarter turns: X sends (x, y, z) to (x, z, -y); Y to (-z, y, x); Z to (y, -x, z)
abbrev pub rot_x : Rotation
rot_x = rot R F D

abbrev pub rot_y : Rotation
rot_y = rot B U R

abbrev pub rot_z : Rotation
rot_z = rot U L F

abbrev pub opposite : Face → Face
opposite U = D
opposite R = L
opposite F = B
opposite D = U
opposite L = R
opposite B = F

-- the half axis that r brings to f
abbrev pub facing : Rotation → Face → Face
facing r U = r.y
facing r R = r.x
facing r F = r.z
facing r D = opposite r.y
facing r L = opposite r.x
facing r B = opposite r.z

-- first r, then s
abbrev pub then_rot : Rotation → Rotation → Rotation
then_rot r s = rot (facing r s.x) (facing r s.y) (facing r s.z)

unfoldable pub same_face : Face → Face → Bool
same_face f g = eqb (num_of f) (num_of g)

-- the half axis to which r brings f
unfoldable pub whither : Rotation → Face → Face
whither r f =
    pick (same_face r.x f) R
    (pick (same_face r.y f) U
    (pick (same_face r.z f) F
    (pick (same_face r.x (opposite f)) L
    (pick (same_face r.y (opposite f)) D B))))

unfoldable pub inverse_rot : Rotation → Rotation
inverse_rot r = rot (whither r R) (whither r U) (whither r F)

-- turn 2 is two quarters, 3 is three
unfoldable pub turn_of : ℕ → Rotation → Rotation
turn_of zero r = identity
turn_of (suc t) r = then_rot (turn_of t r) r

-- U, R, F turn as Y, X, Z; D, L, B as their inverses
unfoldable pub quarter_of : Face → Rotation
quarter_of U = rot_y
quarter_of R = rot_x
quarter_of F = rot_z
quarter_of D = inverse_rot rot_y
quarter_of L = inverse_rot rot_x
quarter_of B = inverse_rot rot_z

-- the face of the kinds U L F R B D
abbrev pub letter_face : ℕ → Face
letter_face zero = U
letter_face (suc zero) = L
letter_face (suc (suc zero)) = F
letter_face (suc (suc (suc zero))) = R
letter_face (suc (suc (suc (suc zero)))) = B
letter_face (suc (suc (suc (suc (suc k))))) = D

-- X, Y, Z turn as R, U, F
abbrev pub whole_face : ℕ → Face
whole_face zero = R
whole_face (suc zero) = U
whole_face (suc (suc k)) = F

-- the face as which each kind turns: letters, wide letters, X Y Z
unfoldable pub kind_face : ℕ → Face
kind_face k = pick (ltb k 12) (letter_face (k % 6)) (whole_face (k - 12))

-- how many layers a move has: 1 for a plain letter, its width for a wide one; X, Y, Z take every sticker, as n layers do
unfoldable pub layers_of : ℕ → Move → ℕ
layers_of n m = pick (ltb m.kind 6) 1 (pick (ltb m.kind 12) m.width n)

-- which stickers a move takes, by their coordinate c towards its face: with width w, U takes y ≥ n-2w, the other faces the same
unfoldable pub takes : ℕ → Move → ℕ → Bool
takes n m c = leb (top n) (c + 2 * layers_of n m)

-- a rotation of those stickers alone whose coordinate towards f passes a test
abbrev pub via : ℕ → Face → (ℕ → Bool) → Rotation → Pos → Pos
via n f test r p = pick (test (toward n p f)) (rotate n r p) p

-- the rotation that a move makes
abbrev pub rotation_of : Move → Rotation
rotation_of m = turn_of m.turn (quarter_of (kind_face m.kind))

-- where a move brings the sticker at p
abbrev pub turned : ℕ → Move → Pos → Pos
turned n m p = via n (kind_face m.kind) (takes n m) (rotation_of m) p

-- the same for stored places
unfoldable pub target : ℕ → Move → ℕ → ℕ
target n m j = index n (turned n m (place n j))

-- whence the sticker at j comes: the place to which the move back brings j
unfoldable pub source : ℕ → Move → ℕ → ℕ
source n m j = target n (back m) j

-- a cube after a move: each place has what stood at its source
unfoldable pub moved : ℕ → Move → List ℕ → List ℕ
moved n m l = tabulate (stickers n) (λ j. get_or l (source n m j) 0)

-- a cube after a list of codes, one after the other
unfoldable pub run : ℕ → List ℕ → List ℕ → List ℕ
run n [] l = l
run n (c ∷ cs) l = run n cs (moved n (move_of c) l)
