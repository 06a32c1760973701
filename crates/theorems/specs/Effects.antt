-- What lists of moves do to cubes. Letters and ids alike: a cube of size n is any list of 6n² numbers.
use Rattle.std.specs.Prelude.{ℕ, ◌+◌, ◌<◌, ◌≡◌, List, length}
use Rattle.generic_cube.specs.Sizes.{stickers}
use Rattle.generic_cube.specs.Code.{move, list_refusal}
use Rattle.move_lists.specs.Lists.{simplify, inverse}
use Rattle.geometric_moves.specs.Turn.{moved, run}

-- a simplified list has the input's effect on every cube of that size
abbrev pub SimplifyKeeps : Type 0
SimplifyKeeps = (n : ℕ) (cs cube : List ℕ) → 0 < n → length cube ≡ stickers n → run n (simplify cs) cube ≡ run n cs cube

-- a list and then its inverse is the identity
abbrev pub InverseUndoes : Type 0
InverseUndoes = (n : ℕ) (cs cube : List ℕ) → 0 < n → list_refusal n cs ≡ 0 → length cube ≡ stickers n → run n (inverse cs) (run n cs cube) ≡ cube

-- a plain letter is its wide letter of width 1
abbrev pub PlainIsWide : Type 0
PlainIsWide = (n p t : ℕ) (cube : List ℕ) → p < 6 → moved n (move (p + 6) 1 t) cube ≡ moved n (move p 0 t) cube
