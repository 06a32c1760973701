-- Move codes, and the refusals of a code and of a list of them. This file alone knows how a code is put together.
use Rattle.std.specs.Prelude.{ℕ, ◌+◌, ◌-◌, ◌*◌, ◌/◌, ◌%◌, Bool, not, ◌&&◌, ◌||◌, List, [], ◌∷◌, Result, Ok, Err, eqb}
use Rattle.ground.specs.Choice.{pick, between, any}
use Rattle.ground.specs.declared.refusals.Refusal.{Refusal}
use Rattle.ground.specs.Refusals.{Row, ◌when◌, lowest, refusal}
use Rattle.generic_cube.specs.declared.Move.{Move}

abbrev pub move : ℕ → ℕ → ℕ → Move
move kind width turn = record { kind = kind; width = width; turn = turn }

-- a move is a code: width·64 + kind·4 + turn
unfoldable pub code_of : Move → ℕ
code_of m = m.width * 64 + m.kind * 4 + m.turn

unfoldable pub move_of : ℕ → Move
move_of c = move (c / 4 % 16) (c / 64) (c % 4)

-- the same kind and width in another turn
abbrev pub with_turn : Move → ℕ → Move
with_turn m t = move m.kind m.width t

unfoldable pub turned_to : ℕ → ℕ → ℕ
turned_to c t = code_of (with_turn (move_of c) t)

-- the move back: a turn of 4 - t
abbrev pub back : Move → Move
back m = with_turn m (4 - m.turn)

-- only kinds 6 to 11 have a width other than 0
unfoldable pub is_wide : ℕ → Bool
is_wide k = between 6 11 k

-- 3: a code has turn 0, kind 15, or a width on a kind without one
unfoldable pub bad_code : Move → Bool
bad_code m = eqb m.turn 0 || eqb m.kind 15 || (not (is_wide m.kind) && not (eqb m.width 0))

-- a code is taken apart once, into kind, width and turn, or it is refused
unfoldable pub read_code : ℕ → Result Move Refusal
read_code c = pick (bad_code (move_of c)) (Err (refusal 3)) (Ok (move_of c))

-- 5: a width is outside its range, low to high
unfoldable pub outside : ℕ → ℕ → ℕ → Bool
outside low high w = not (between low high w)

abbrev pub bad_width_in : ℕ → ℕ → Move → Bool
bad_width_in low high m = is_wide m.kind && outside low high m.width

-- what a list is refused for, anywhere in it
abbrev pub rows_in : ℕ → ℕ → List ℕ → List Row
rows_in low high cs = 3 when any (λ c. bad_code (move_of c)) cs ∷ 5 when any (λ c. bad_width_in low high (move_of c)) cs ∷ []

unfoldable pub refusal_in : ℕ → ℕ → List ℕ → ℕ
refusal_in low high cs = lowest (rows_in low high cs)

-- a wide width is 1 to n for applying, simplifying, inverting and searching
abbrev pub list_rows : ℕ → List ℕ → List Row
list_rows n cs = rows_in 1 n cs

unfoldable pub list_refusal : ℕ → List ℕ → ℕ
list_refusal n cs = lowest (list_rows n cs)

-- neighbours of equal kind and width join; a search never makes two such moves in a row
unfoldable pub joins : ℕ → ℕ → Bool
joins c d = eqb (move_of c).kind (move_of d).kind && eqb (move_of c).width (move_of d).width
