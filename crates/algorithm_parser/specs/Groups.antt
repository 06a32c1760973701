-- The grammar of algorithms: a sequence holds groups and a group holds sequences. A text is read from left to right, so that the first error
-- met is the first by place, and at one place a token's own, which has the lower number. `get_or text i 0` is the byte at i, 0 past the end.
use Rattle.std.specs.Prelude.{ℕ, zero, suc, ◌+◌, ◌-◌, ◌*◌, Bool, true, false, ◌||◌, List, [], ◌∷◌, Result, Ok, Err, length, get_or, eqb}
use Rattle.ground.specs.Choice.{pick, between}
use Rattle.ground.specs.Refusals.{refusal_no}
use Rattle.tokens.specs.Words.{group_signs, is_sign, Run, words_from}
use Rattle.tokens.specs.Token.{read_token}
use Rattle.tokens.specs.declared.Fault.{Fault}
use Rattle.scramble_parser.specs.Parse.{Reading, codes, bad, ReadResult}
use Rattle.scramble_parser.specs.declared.ParseError.{ParseError}
use Rattle.algorithm_parser.specs.Algorithm.{Alg, nothing, move, both, repeated, commutator, conjugate, expand}

-- what a part of a text reads as: its meaning and the place where it ends; or a refusal and its place
pub data Outcome : Type 0 where
  means : Alg → ℕ → Outcome
  wrong : ℕ → ℕ → Outcome

-- what follows a part goes on where it ends; a refusal wins over all that follows
abbrev pub and_then : Outcome → (Alg → ℕ → Outcome) → Outcome
and_then (means a e) next = next a e
and_then (wrong k p) next = wrong k p

-- one part in front of another
abbrev pub front : Alg → Outcome → Outcome
front a (means b e) = means (both a b) e
front a (wrong k p) = wrong k p

-- ---- a sequence

-- a word of the text is a sign that opens a group, ( or [; any other sign; or a token
pub data Sort : Type 0 where
  opening : Sort
  other : Sort
  token : Sort

unfoldable pub sort_of : ℕ → Sort
sort_of b = pick (eqb b 40 || eqb b 91) opening (pick (is_sign group_signs b) other token)

-- a token that starts at `start`, in front of what follows it
abbrev pub token_then : Result ℕ Fault → ℕ → Outcome → Outcome
token_then (Ok c) start rest = front (move c) rest
token_then (Err f) start rest = wrong (refusal_no f.refusal) (start + f.place)

-- a group one level deeper, or a token, in front of the rest; 17: no level is left; any other sign ends the sequence before it
abbrev pub word_then : Sort → ℕ → ℕ → Run → (ℕ → Outcome) → (ℕ → Outcome) → Outcome
word_then opening n zero w group rest = wrong 17 w.start
word_then opening n (suc left) w group rest = and_then (group w.start) (λ a e. front a (rest e))
word_then other n left w group rest = means nothing w.start
word_then token n left w group rest = token_then (read_token n w.bytes) w.start (rest (w.start + length w.bytes))

-- by the first of the words; without one the sequence ends where the text does
abbrev pub first_then : ℕ → List ℕ → ℕ → List Run → (ℕ → Outcome) → (ℕ → Outcome) → Outcome
first_then n text left [] group rest = means nothing (length text)
first_then n text left (w ∷ ws) group rest = word_then (sort_of (get_or w.bytes 0 0)) n left w group rest

-- ---- the ends of groups: 16, at the place where the sign should stand

-- `)`, and right after it a digit 1 to 9, if there is one: the repeat
unfoldable pub round_end : List ℕ → Alg → ℕ → Outcome
round_end text a e =
    pick (eqb (get_or text e 0) 41)
    (pick (between 49 57 (get_or text (e + 1) 0)) (means (repeated (get_or text (e + 1) 0 - 48) a) (e + 2)) (means (repeated 1 a) (e + 1)))
    (wrong 16 e)

-- `]`
unfoldable pub square_end : List ℕ → Alg → ℕ → Outcome
square_end text a e = pick (eqb (get_or text e 0) 93) (means a (e + 1)) (wrong 16 e)

-- [A, B] or [A: B], by the sign between them
unfoldable pub paired : ℕ → Alg → Alg → Alg
paired sign a b = pick (eqb sign 44) (commutator a b) (conjugate a b)

-- `,` or `:`, a second sequence, and `]`
abbrev pub second_then : Bool → List ℕ → Alg → ℕ → (ℕ → Outcome) → Outcome
second_then true text a e rest = and_then (rest (e + 1)) (λ b d. square_end text (paired (get_or text e 0) a b) d)
second_then false text a e rest = wrong 16 e

-- what follows the first sequence of a round group, and of a square one
abbrev pub group_then : Bool → List ℕ → Alg → ℕ → (ℕ → Outcome) → Outcome
group_then true text a e rest = round_end text a e
group_then false text a e rest = second_then (eqb (get_or text e 0) 44 || eqb (get_or text e 0) 58) text a e rest

-- ---- the two readers

-- the sequence from i on, and the group whose opening sign stands at s, with so many levels left below them. `calls` bounds how deep the one
-- calls the other, so that the definition ends; more calls than `sequence_calls` and `group_calls` change nothing (ReaderLaws `more_calls`)
unfoldable mutual
  pub sequence_of : ℕ → List ℕ → ℕ → ℕ → ℕ → Outcome
  sequence_of n text zero left i = wrong 0 0
  sequence_of n text (suc calls) left i =
      first_then n text left (words_from group_signs text i) (λ s. group_of n text calls (left - 1) s) (λ e. sequence_of n text calls left e)

  pub group_of : ℕ → List ℕ → ℕ → ℕ → ℕ → Outcome
  group_of n text zero left s = wrong 0 0
  group_of n text (suc calls) left s =
      and_then (sequence_of n text calls left (s + 1))
      (λ a e. group_then (eqb (get_or text s 0) 40) text a e (λ i. sequence_of n text calls left i))

-- two calls for each unread byte are enough, and one for the end
abbrev pub sequence_calls : List ℕ → ℕ → ℕ
sequence_calls text i = 2 * (length text - i) + 1

abbrev pub group_calls : List ℕ → ℕ → ℕ
group_calls text s = 2 * (length text - s)

unfoldable pub sequence_at : ℕ → List ℕ → ℕ → ℕ → Outcome
sequence_at n text left i = sequence_of n text (sequence_calls text i) left i

unfoldable pub group_at : ℕ → List ℕ → ℕ → ℕ → Outcome
group_at n text left s = group_of n text (group_calls text s) left s

-- ---- the whole text

-- a sequence that ends before the text does ends at a sign out of place
abbrev pub whole : List ℕ → Outcome → Outcome
whole text (means a e) = pick (eqb e (length text)) (means a e) (wrong 16 e)
whole text (wrong k p) = wrong k p

-- groups are at most 8 deep
unfoldable pub read_algorithm : ℕ → List ℕ → Outcome
read_algorithm n text = whole text (sequence_at n text 8 0)

-- the expansion's codes, or the refusal
abbrev pub expanded : Outcome → Reading
expanded (means a e) = codes (expand a)
expanded (wrong k p) = bad k p

abbrev pub algorithm_reading : ℕ → List ℕ → Reading
algorithm_reading n text = expanded (read_algorithm n text)

-- what `parse_algorithm` answers and leaves in its output: what `parse_scramble` does with another reading
abbrev pub AlgorithmResult : ℕ → List ℕ → List ℕ → List ℕ → Result ℕ ParseError → Type 0
AlgorithmResult n text out out' p = ReadResult n (algorithm_reading n text) out out' p
