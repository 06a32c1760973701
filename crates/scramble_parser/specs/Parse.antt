-- What a text reads as, and what `parse_scramble` answers and leaves in its output.
use Rattle.std.specs.Prelude.{ℕ, ◌+◌, ◌≡◌, List, [], ◌∷◌, Result, Ok, Err, length, ltb}
use Rattle.ground.specs.Choice.{pick}
use Rattle.ground.specs.Lists.{over}
use Rattle.ground.specs.Refusals.{refusal_no, refusal}
use Rattle.generic_cube.specs.Sizes.{sized}
use Rattle.tokens.specs.Token.{fault, read_token}
use Rattle.tokens.specs.Words.{Run, tokens_of}
use Rattle.tokens.specs.declared.Fault.{Fault}
use Rattle.scramble_parser.specs.declared.ParseError.{ParseError}
use Rattle.scramble_parser.specs.declared.ParseError.TheVariants.{Refused, At}

-- the codes of a text, or why its first bad token is none: the number and the byte offset
pub data Reading : Type 0 where
  codes : List ℕ → Reading
  bad : ℕ → ℕ → Reading

-- a token that starts at `start` in front of what follows it: a bad one wins over all that follows
abbrev pub ahead : Result ℕ Fault → ℕ → Reading → Reading
ahead (Err f) start r = bad (refusal_no f.refusal) (start + f.place)
ahead (Ok c) start (codes cs) = codes (c ∷ cs)
ahead (Ok c) start (bad k at) = bad k at

unfoldable pub reading : ℕ → List Run → Reading
reading n [] = codes []
reading n (w ∷ ws) = ahead (read_token n w.bytes) w.start (reading n ws)

-- the answers that refuse a text, by a refusal's number; a bad token's has its place in the text
abbrev pub text_refused : ℕ → Result ℕ ParseError
text_refused k = Err (Refused (refusal k))

abbrev pub refused_at : ℕ → ℕ → Result ℕ ParseError
refused_at k at = Err (At (fault k at))

-- 6: the output is too short; it comes after any bad token
abbrev pub answer_of : ℕ → Reading → Result ℕ ParseError
answer_of room (bad k at) = refused_at k at
answer_of room (codes cs) = pick (ltb room (length cs)) (text_refused 6) (Ok (length cs))

-- the codes fill the first slots, what lies past them stays
abbrev pub filled_by : List ℕ → Reading → List ℕ
filled_by out (bad k at) = out
filled_by out (codes cs) = pick (ltb (length out) (length cs)) out (over cs out)

-- 1: the size, before all else
unfoldable pub read_answer : ℕ → Reading → ℕ → Result ℕ ParseError
read_answer n r room = pick (sized n) (answer_of room r) (text_refused 1)

unfoldable pub read_out : ℕ → Reading → List ℕ → List ℕ
read_out n r out = pick (sized n) (filled_by out r) out

-- what a reader answers and leaves in its output, for a text that reads as r
pub record ReadResult (n : ℕ) (r : Reading) (out out' : List ℕ) (p : Result ℕ ParseError) : Type 0 where
  pub answered : p ≡ read_answer n r (length out)
  pub written : out' ≡ read_out n r out

-- what a scramble's text reads as
abbrev pub scramble_reading : ℕ → List ℕ → Reading
scramble_reading n text = reading n (tokens_of text)

abbrev pub parse_answer : ℕ → List ℕ → ℕ → Result ℕ ParseError
parse_answer n text room = read_answer n (scramble_reading n text) room

-- what `parse_scramble` answers and leaves in its output
abbrev pub ParseResult : ℕ → List ℕ → List ℕ → List ℕ → Result ℕ ParseError → Type 0
ParseResult n text out out' p = ReadResult n (scramble_reading n text) out out' p

-- the rules' number of each case, 0 where nothing is refused
abbrev pub parsed_no : Result ℕ ParseError → ℕ
parsed_no (Ok count) = 0
parsed_no (Err (Refused r)) = refusal_no r
parsed_no (Err (At f)) = refusal_no f.refusal

-- and its value: the count, or a bad token's place, else 0
abbrev pub parsed_value : Result ℕ ParseError → ℕ
parsed_value (Ok count) = count
parsed_value (Err (Refused r)) = 0
parsed_value (Err (At f)) = f.place
