-- What the program writes, for all that it may read.
use Rattle.std.specs.Prelude.{ℕ, zero, suc, ◌+◌, ◌/◌, ◌%◌, ◌≤◌, ◌≡◌, Bool, not, ◌&&◌, ◌||◌, List, [], ◌∷◌, ◌++◌, length, get_or, take, drop, ltb, leb, eqb}
use Rattle.ground.specs.Choice.{pick, position, between}
use Rattle.tokens.specs.Token.{digits_of, number_of}
use Rattle.tokens.specs.Words.{tokens_of}
use Rattle.scramble_parser.specs.Parse.{Reading, codes, bad, reading}
use Rattle.geometric_moves.specs.Turn.{run}
use Rattle.facelet_cube.specs.Cube.{solved_cube}

-- a line ends at byte 10 or the end of input
unfoldable pub first_line : List ℕ → List ℕ
first_line input = take (position 10 input) input

-- what stands behind a line and its line feed
unfoldable pub after_line : List ℕ → List ℕ
after_line input = drop (position 10 input + 1) input

abbrev pub line_one : List ℕ → List ℕ
line_one input = first_line input

-- a missing line two is empty, later lines are ignored
abbrev pub line_two : List ℕ → List ℕ
line_two input = first_line (after_line input)

-- either line over 4,096 bytes, line feed not counted
unfoldable pub too_long : List ℕ → List ℕ → Bool
too_long one two = ltb 4096 (length one) || ltb 4096 (length two)

-- the plain decimal number, 1 to 20, no leading zero, and nothing else: one or two digits that are the whole line
unfoldable pub is_size : List ℕ → Bool
is_size one =
    eqb (digits_of one) (length one) && between 1 2 (length one) && not (eqb (get_or one 0 0) 48) && leb (number_of (length one) one) 20

-- the size that a line writes, 0 for any other line
unfoldable pub size_of : List ℕ → ℕ
size_of one = pick (is_size one) (number_of (length one) one) 0

-- a number in decimal: its last digit behind those of its tenth. As many steps as its value are enough
unfoldable pub decimal_in : ℕ → ℕ → List ℕ
decimal_in zero x = (48 + x) ∷ []
decimal_in (suc steps) x = pick (ltb x 10) ((48 + x) ∷ []) (decimal_in steps (x / 10) ++ (48 + x % 10) ∷ [])

unfoldable pub decimal : ℕ → List ℕ
decimal x = decimal_in x x

-- `line too long`, `refused ` and ` at `; each response ends with a line feed
abbrev pub too_long_text : List ℕ
too_long_text = 108 ∷ 105 ∷ 110 ∷ 101 ∷ 32 ∷ 116 ∷ 111 ∷ 111 ∷ 32 ∷ 108 ∷ 111 ∷ 110 ∷ 103 ∷ 10 ∷ []

abbrev pub refused_text : List ℕ
refused_text = 114 ∷ 101 ∷ 102 ∷ 117 ∷ 115 ∷ 101 ∷ 100 ∷ 32 ∷ []

abbrev pub at_text : List ℕ
at_text = 32 ∷ 97 ∷ 116 ∷ 32 ∷ []

abbrev pub feed : List ℕ
feed = 10 ∷ []

-- the letters of the solved cube after the scramble; for a refused scramble the number and the byte offset in line two
abbrev pub scramble_answer : ℕ → Reading → List ℕ
scramble_answer n (codes cs) = run n cs (solved_cube n) ++ feed
scramble_answer n (bad k at) = refused_text ++ (decimal k ++ (at_text ++ (decimal at ++ feed)))

-- `line too long` is tested first; any other first line than a size: `refused 1`
unfoldable pub answer_to : List ℕ → List ℕ → List ℕ
answer_to one two =
    pick (too_long one two) too_long_text
    (pick (eqb (size_of one) 0) (refused_text ++ (decimal 1 ++ feed))
    (scramble_answer (size_of one) (reading (size_of one) (tokens_of two))))

unfoldable pub response : List ℕ → List ℕ
response input = answer_to (line_one input) (line_two input)

-- a response at the front of the output, which has room for it, and what lies past it as it was
pub record Responds (text out out' : List ℕ) (r : ℕ) : Type 0 where
  pub count : r ≡ length text
  pub room : length text ≤ length out
  pub written : out' ≡ text ++ drop (length text) out
