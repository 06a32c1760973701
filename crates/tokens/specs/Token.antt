-- The grammar of a token, read left to right by the place in it. `get_or t i 0` is the byte at i, 0 past the end; k is the number of digits at
-- the front, 4 for more than three.
use Rattle.std.specs.Prelude.{ℕ, ◌+◌, ◌-◌, ◌*◌, Bool, not, ◌&&◌, ◌||◌, List, [], ◌∷◌, Result, Ok, Err, length, get_or, ltb, leb, eqb}
use Rattle.ground.specs.Choice.{pick, position, between}
use Rattle.ground.specs.Refusals.{refusal}
use Rattle.generic_cube.specs.Code.{move, code_of, outside}
use Rattle.generic_cube.specs.declared.Move.{Move}
use Rattle.tokens.specs.declared.Fault.{Fault}
use Rattle.tokens.specs.declared.Mark.{Mark}

-- ---- digits

-- the value of a digit, 10 for any other byte
unfoldable pub digit_of : ℕ → ℕ
digit_of b = pick (between 48 57 b) (b - 48) 10

unfoldable pub is_digit : ℕ → Bool
is_digit b = not (eqb (digit_of b) 10)

-- how many digits stand at the front, 4 for more than three
unfoldable pub digits_of : List ℕ → ℕ
digits_of t =
    pick (is_digit (get_or t 0 0)) (pick (is_digit (get_or t 1 0)) (pick (is_digit (get_or t 2 0)) (pick (is_digit (get_or t 3 0)) 4 3) 2) 1) 0

-- the number that the first k digits write, k from 1 to 3
unfoldable pub number_of : ℕ → List ℕ → ℕ
number_of k t =
    pick (eqb k 1) (digit_of (get_or t 0 0))
    (pick (eqb k 2) (digit_of (get_or t 0 0) * 10 + digit_of (get_or t 1 0))
    (digit_of (get_or t 0 0) * 100 + digit_of (get_or t 1 0) * 10 + digit_of (get_or t 2 0)))

-- the width is what the digits write, 2 where there are none
unfoldable pub token_width : List ℕ → ℕ → ℕ
token_width t k = pick (eqb k 0) 2 (number_of k t)

-- ---- the letter, and `w` after it

-- the letters of the kinds: U L F R B D (0 to 5; wide 6 to 11), then x y z (12 to 14)
abbrev pub kind_letters : List ℕ
kind_letters = 85 ∷ 76 ∷ 70 ∷ 82 ∷ 66 ∷ 68 ∷ 120 ∷ 121 ∷ 122 ∷ []

-- the place of a letter among them, 9 for any other byte; the six faces come first
unfoldable pub letter_of : ℕ → ℕ
letter_of b = position b kind_letters

-- the letter stands behind the digits
abbrev pub letter_at : List ℕ → ℕ → ℕ
letter_at t k = letter_of (get_or t k 0)

-- a token is wide that has a face's letter and `w` after it
unfoldable pub is_wide_token : List ℕ → ℕ → Bool
is_wide_token t k = ltb (letter_at t k) 6 && eqb (get_or t (k + 1) 0) 119

-- the kind of a letter without `w`, from its place
unfoldable pub plain_kind : ℕ → ℕ
plain_kind p = pick (ltb p 6) p (p + 6)

-- ---- the suffix

-- it is nothing, `2` or `'`: its turn, and how many bytes it takes
unfoldable pub mark_of : ℕ → Mark
mark_of b =
    pick (eqb b 50) (record { turn = 2; size = 1 })
    (pick (eqb b 39) (record { turn = 3; size = 1 })
    (record { turn = 1; size = 0 }))

-- it stands behind the letter, and behind the `w` of a wide token
unfoldable pub suffix_at : List ℕ → ℕ → ℕ
suffix_at t k = k + pick (is_wide_token t k) 2 1

abbrev pub suffix_of : List ℕ → ℕ → Mark
suffix_of t k = mark_of (get_or t (suffix_at t k) 0)

-- where the suffix ends
abbrev pub token_end : List ℕ → ℕ → ℕ
token_end t k = suffix_at t k + (suffix_of t k).size

-- ---- the token

-- a letter with a suffix; or a width, a face's letter, `w` and a suffix
unfoldable pub token_move : List ℕ → ℕ → Move
token_move t k =
    pick (is_wide_token t k) (move (letter_at t k + 6) (token_width t k) (suffix_of t k).turn)
    (move (plain_kind (letter_at t k)) 0 (suffix_of t k).turn)

-- digits that start with 0 or number more than three
unfoldable pub bad_digits : List ℕ → ℕ → Bool
bad_digits t k = eqb (get_or t 0 0) 48 || ltb 3 k

-- no letter of the six, or of x, y, z where no digits stood
unfoldable pub no_letter : List ℕ → ℕ → Bool
no_letter t k = leb (pick (eqb k 0) 9 6) (letter_at t k)

-- with digits, no `w` after the letter
unfoldable pub no_w : List ℕ → ℕ → Bool
no_w t k = not (eqb k 0) && not (is_wide_token t k)

-- any byte left after the suffix
unfoldable pub bytes_left : List ℕ → ℕ → Bool
bytes_left t k = not (eqb (length t) (token_end t k))

-- the notation takes a width only if 1 < w < n
unfoldable pub bad_token_width : ℕ → List ℕ → ℕ → Bool
bad_token_width n t k = is_wide_token t k && outside 2 (n - 1) (token_width t k)

-- the refusal with the number k, at the place p in the token
abbrev pub fault : ℕ → ℕ → Fault
fault k p = record { refusal = refusal k; place = p }

-- a row: a fault's number, its place in the token, and whether it is there
pub record FaultRow : Type 0 where
  pub number : ℕ
  pub place : ℕ
  pub there : Bool

infix 68 ◌at◌when◌
abbrev pub ◌at◌when◌ : ℕ → ℕ → Bool → FaultRow
k at p when t = record { number = k; place = p; there = t }

-- 13, 12, 14: where the token stops being one of the grammar, read left to right; 5: its width, at its start, where none of these is there
abbrev pub token_faults : ℕ → List ℕ → ℕ → List FaultRow
token_faults n t k =
    13 at 0 when bad_digits t k
    ∷ 12 at k when no_letter t k
    ∷ 14 at (k + 1) when no_w t k
    ∷ 14 at token_end t k when bytes_left t k
    ∷ 5 at 0 when bad_token_width n t k
    ∷ []

-- the first fault that is there refuses the token
unfoldable pub unless_fault : List FaultRow → Result ℕ Fault → Result ℕ Fault
unless_fault [] r = r
unless_fault (f ∷ fs) r = pick f.there (Err (fault f.number f.place)) (unless_fault fs r)

-- the token with k digits at the front: its code, or its refusal
unfoldable pub read_behind : ℕ → List ℕ → ℕ → Result ℕ Fault
read_behind n t k = unless_fault (token_faults n t k) (Ok (code_of (token_move t k)))

unfoldable pub read_token : ℕ → List ℕ → Result ℕ Fault
read_token n t = read_behind n t (digits_of t)
