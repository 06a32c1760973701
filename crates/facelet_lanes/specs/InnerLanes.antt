-- Inner contracts of turning in place: rings of lanes, how the stickers that a move turns lie, so that each goes to the same place of the
-- next lane.
use Rattle.std.specs.Prelude.{ℕ, zero, suc, ◌+◌, ◌-◌, ◌*◌, ◌/◌, ◌%◌, ◌<◌, ◌≤◌, ◌≡◌, Bool, List, [], ◌∷◌, eqb, get_or, set}
use Rattle.generic_cube.specs.Inner.{Sized}
use Rattle.ground.specs.Choice.{pick}
use Rattle.generic_cube.specs.Sizes.{stickers}
use Rattle.facelet_lanes.specs.declared.Frame.{Frame}
use Rattle.facelet_lanes.specs.declared.Lane.{Lane}
use Rattle.facelet_lanes.specs.declared.Ring.{Ring}

-- for each face in their order three rings of four lanes: the sides, the face, the face opposite. The faces of the lanes, clockwise
-- around the face, and the edge of that face at which a lane starts: 0 the first row, 1 the last column, 2 the last row, 3 the first column
unfoldable pub ring_faces : List ℕ
ring_faces =
    1 ∷ 2 ∷ 4 ∷ 5 ∷ 0 ∷ 0 ∷ 0 ∷ 0 ∷ 3 ∷ 3 ∷ 3 ∷ 3 ∷
    0 ∷ 5 ∷ 3 ∷ 2 ∷ 1 ∷ 1 ∷ 1 ∷ 1 ∷ 4 ∷ 4 ∷ 4 ∷ 4 ∷
    0 ∷ 1 ∷ 3 ∷ 4 ∷ 2 ∷ 2 ∷ 2 ∷ 2 ∷ 5 ∷ 5 ∷ 5 ∷ 5 ∷
    1 ∷ 5 ∷ 4 ∷ 2 ∷ 3 ∷ 3 ∷ 3 ∷ 3 ∷ 0 ∷ 0 ∷ 0 ∷ 0 ∷
    0 ∷ 2 ∷ 3 ∷ 5 ∷ 4 ∷ 4 ∷ 4 ∷ 4 ∷ 1 ∷ 1 ∷ 1 ∷ 1 ∷
    0 ∷ 4 ∷ 3 ∷ 1 ∷ 5 ∷ 5 ∷ 5 ∷ 5 ∷ 2 ∷ 2 ∷ 2 ∷ 2 ∷ []

unfoldable pub ring_edges : List ℕ
ring_edges =
    0 ∷ 0 ∷ 0 ∷ 0 ∷ 0 ∷ 1 ∷ 2 ∷ 3 ∷ 0 ∷ 3 ∷ 2 ∷ 1 ∷
    1 ∷ 3 ∷ 1 ∷ 1 ∷ 0 ∷ 1 ∷ 2 ∷ 3 ∷ 0 ∷ 3 ∷ 2 ∷ 1 ∷
    2 ∷ 3 ∷ 0 ∷ 1 ∷ 0 ∷ 1 ∷ 2 ∷ 3 ∷ 0 ∷ 3 ∷ 2 ∷ 1 ∷
    2 ∷ 2 ∷ 2 ∷ 2 ∷ 0 ∷ 1 ∷ 2 ∷ 3 ∷ 0 ∷ 3 ∷ 2 ∷ 1 ∷
    3 ∷ 3 ∷ 3 ∷ 1 ∷ 0 ∷ 1 ∷ 2 ∷ 3 ∷ 0 ∷ 3 ∷ 2 ∷ 1 ∷
    0 ∷ 3 ∷ 2 ∷ 1 ∷ 0 ∷ 1 ∷ 2 ∷ 3 ∷ 0 ∷ 3 ∷ 2 ∷ 1 ∷ []

-- the four corners of a face, and the steps from a place to the next along each edge, onwards and backwards
abbrev pub corners : ℕ → List ℕ
corners n = 0 ∷ (n - 1) ∷ (n * n - 1) ∷ (n * n - n) ∷ []

abbrev pub strides : ℕ → List ℕ
strides n = 1 ∷ n ∷ 0 ∷ 0 ∷ 1 ∷ n ∷ 0 ∷ []

-- the lane of an edge of a face, by its first place and its steps
abbrev pub lane_of : ℕ → ℕ → ℕ → Lane
lane_of n face edge = record {
  start = face * n * n + get_or (corners n) edge 0;
  over = get_or (strides n) (edge + 1) 0;
  along = get_or (strides n) edge 0;
  under = get_or (strides n) (edge + 3) 0;
  behind = get_or (strides n) (edge + 2) 0;
}

-- a face's corners and the steps along its edges, as the code keeps them
abbrev pub frame_of : ℕ → Frame
frame_of n = record { n = n; corner = corners n; step = strides n }

-- the place of column q of line p
abbrev pub place_on : Lane → ℕ → ℕ → ℕ
place_on a p q = a.start + p * a.over + q * a.along - (p * a.under + q * a.behind)

-- what finding a place asks
pub record Spot (a : Lane) (p q : ℕ) : Type 0 where
  pub room : a.start + p * a.over + q * a.along ≤ 200000
  pub back : p * a.under + q * a.behind ≤ a.start + p * a.over + q * a.along

-- lane k of a ring, counted around it
unfoldable pub ring_lane : ℕ → ℕ → ℕ → Lane
ring_lane n ring k = lane_of n (get_or ring_faces (4 * ring + k % 4) 0) (get_or ring_edges (4 * ring + k % 4) 0)

abbrev pub ring_of : ℕ → ℕ → Ring
ring_of n ring = record { a = ring_lane n ring 0; b = ring_lane n ring 1; c = ring_lane n ring 2; d = ring_lane n ring 3 }

-- of the values one, two and three lanes back, the one that t quarters bring
unfoldable pub prior : ℕ → ℕ → ℕ → ℕ → ℕ
prior t one two three = pick (eqb t 1) one (pick (eqb t 2) two three)

-- four places, each of which gets the value t places back
unfoldable pub cycled : ℕ → ℕ → ℕ → ℕ → ℕ → List ℕ → List ℕ
cycled t i j k e l =
    set (set (set (set l
    i (prior t (get_or l e 0) (get_or l k 0) (get_or l j 0)))
    j (prior t (get_or l i 0) (get_or l e 0) (get_or l k 0)))
    k (prior t (get_or l j 0) (get_or l i 0) (get_or l e 0)))
    e (prior t (get_or l k 0) (get_or l j 0) (get_or l i 0))

-- the first q places of line p
unfoldable pub line_cycled : ℕ → ℕ → Ring → ℕ → List ℕ → List ℕ
line_cycled t p r zero l = l
line_cycled t p r (suc q) l = cycled t (place_on r.a p q) (place_on r.b p q) (place_on r.c p q) (place_on r.d p q) (line_cycled t p r q l)

-- `lines` lines from `first` on, m places of each
unfoldable pub ring_turned : ℕ → ℕ → ℕ → ℕ → ℕ → ℕ → List ℕ → List ℕ
ring_turned n t ring m first zero l = l
ring_turned n t ring m first (suc p) l =
    line_cycled t (first + p) (ring_of n ring) m (ring_turned n t ring m first p l)

-- a whole face in quarters, where it is to turn
abbrev pub face_turned : ℕ → ℕ → ℕ → Bool → List ℕ → List ℕ
face_turned n t ring turns l = pick turns (ring_turned n t ring (n / 2) 0 (n - n / 2) l) l

-- `count` layers from `first` on, counted from a face: their lines on its sides, the face itself where the first layer is one of them,
-- and the face opposite where the last is
unfoldable pub layers_turned : ℕ → ℕ → ℕ → ℕ → ℕ → List ℕ → List ℕ
layers_turned n t face first count l =
    face_turned n t (3 * face + 2) (eqb (first + count) n)
    (face_turned n t (3 * face + 1) (eqb first 0) (ring_turned n t (3 * face) n first count l))

-- what a place of a lane asks of a cube
pub record PlaceFits (a : Lane) (p q long : ℕ) : Type 0 where
  pub spot : Spot a p q
  pub within : place_on a p q < long

-- what the same place of the four lanes asks
pub record CellFits (r : Ring) (p q long : ℕ) : Type 0 where
  pub at_a : PlaceFits r.a p q long
  pub at_b : PlaceFits r.b p q long
  pub at_c : PlaceFits r.c p q long
  pub at_d : PlaceFits r.d p q long

-- what a line of a ring asks
pub record LineFits (p count : ℕ) (r : Ring) (long : ℕ) : Type 0 where
  pub few : count ≤ 104
  pub cells : (q : ℕ) → q < count → CellFits r p q long

-- what a ring asks
pub record RingFits (n ring first lines count long : ℕ) : Type 0 where
  pub sized : Sized n
  pub ring_is : ring < 18
  pub deep : first + lines ≤ n
  pub wide : count ≤ n
  pub whole : long ≡ stickers n

-- what layers ask
pub record LayersFit (n face first count long : ℕ) : Type 0 where
  pub sized : Sized n
  pub face_is : face < 6
  pub deep : first + count ≤ n
  pub whole : long ≡ stickers n
