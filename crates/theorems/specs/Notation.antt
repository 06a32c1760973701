-- What is promised of the notation and of lists of codes, beside what the entries' results say.
use Rattle.std.specs.Prelude.{ℕ, ◌+◌, ◌-◌, ◌*◌, ◌≤◌, ◌<◌, ◌≡◌, true, ◌⊎◌, ◌↔◌, List, [], ◌∷◌, ◌++◌, length, get_or, take, Result, Ok, Err, eqb, ltb}
use Rattle.ground.specs.Choice.{pick}
use Rattle.ground.specs.Lists.{over}
use Rattle.generic_cube.specs.declared.Move.{Move}
use Rattle.generic_cube.specs.Sizes.{sized}
use Rattle.generic_cube.specs.Code.{move, move_of, is_wide, refusal_in}
use Rattle.move_lists.specs.Lists.{simplify, Reduced, Turned, Steps, inverse}
use Rattle.tokens.specs.Token.{kind_letters, plain_kind, fault, read_token}
use Rattle.tokens.specs.Words.{Run, tokens_of}
use Rattle.scramble_writer.specs.Write.{text_of, list_text, write_refusal, WriteResult}
use Rattle.scramble_parser.specs.declared.ParseError.{ParseError}
use Rattle.scramble_parser.specs.Parse.{codes, bad, reading, ParseResult}

-- ---- the grammar of a token

-- a suffix: its bytes, and its turn
pub data Suffix : List ℕ → ℕ → Type 0 where
  quarter_mark : Suffix [] 1
  half_mark : Suffix (50 ∷ []) 2
  counter_mark : Suffix (39 ∷ []) 3

-- a width: nothing for 2, or one to three digits, the first not 0
pub data Width : List ℕ → ℕ → Type 0 where
  no_digits : Width [] 2
  one_digit : (a : ℕ) → 0 < a → a < 10 → Width ((48 + a) ∷ []) a
  two_digits : (a b : ℕ) → 0 < a → a < 10 → b < 10 → Width ((48 + a) ∷ (48 + b) ∷ []) (a * 10 + b)
  three_digits : (a b c : ℕ) → 0 < a → a < 10 → b < 10 → c < 10 → Width ((48 + a) ∷ (48 + b) ∷ (48 + c) ∷ []) (a * 100 + b * 10 + c)

-- a token of a move, whatever its width: a letter and a suffix; or a width, a face's letter, `w` and a suffix
pub data Shaped : List ℕ → Move → Type 0 where
  plain_token : (p : ℕ) {s : List ℕ} {u : ℕ} → p < 9 → Suffix s u → Shaped (get_or kind_letters p 0 ∷ s) (move (plain_kind p) 0 u)
  wide_token : (p : ℕ) {ds s : List ℕ} {w u : ℕ} → p < 6 → Width ds w → Suffix s u
      → Shaped (ds ++ (get_or kind_letters p 0 ∷ 119 ∷ s)) (move (p + 6) w u)

-- a width must have 1 < w < n
abbrev pub WidthTaken : ℕ → Move → Type 0
WidthTaken n m = is_wide m.kind ≡ true → (1 < m.width) × (m.width < n)

-- a token for the size
pub record Spelled (n : ℕ) (t : List ℕ) (m : Move) : Type 0 where
  pub shape : Shaped t m
  pub width : WidthTaken n m

-- every token of the grammar is read as its move
abbrev pub Accepts : Type 0
Accepts = (n : ℕ) (t : List ℕ) (c : ℕ) → Spelled n t (move_of c) → read_token n t ≡ Ok c

-- and no other
abbrev pub AcceptsNoOther : Type 0
AcceptsNoOther = (n : ℕ) (t : List ℕ) (c : ℕ) → read_token n t ≡ Ok c → Spelled n t (move_of c)

-- ---- where a text stops being a token, read from the left

-- the first byte is no digit; it is none of the first `count` letters. `get_or rest 0 0` is 0 where nothing is left
abbrev pub NoDigit : List ℕ → Type 0
NoDigit rest = (a : ℕ) → a < 10 → get_or rest 0 0 ≡ 48 + a → ⊥

abbrev pub NoneOf : ℕ → List ℕ → Type 0
NoneOf count rest = (p : ℕ) → p < count → get_or rest 0 0 ≡ get_or kind_letters p 0 → ⊥

-- a byte is left after the suffix, at place i: one where no suffix stands, or one after it
pub data ByteLeft : ℕ → List ℕ → Type 0 where
  no_mark : (b : ℕ) (rest : List ℕ) → ((u : ℕ) → Suffix (b ∷ []) u → ⊥) → ByteLeft 0 (b ∷ rest)
  one_mark : (m b : ℕ) (rest : List ℕ) (u : ℕ) → Suffix (m ∷ []) u → ByteLeft 1 (m ∷ b ∷ rest)

-- the number and the place of a fault. 13: digits that start with 0 or number more than three; 12: then a letter that isn't one of the six (or
-- x, y, z where no digits stood), or none; 14: with digits, no `w` after the letter; 14: any byte left after the suffix
pub data Faulty : ℕ → ℕ → List ℕ → Type 0 where
  zero_first : (rest : List ℕ) → Faulty 13 0 (48 ∷ rest)
  four_digits : (a b c d : ℕ) (rest : List ℕ) → a < 10 → b < 10 → c < 10 → d < 10
      → Faulty 13 0 ((48 + a) ∷ (48 + b) ∷ (48 + c) ∷ (48 + d) ∷ rest)
  no_letter_here : {ds : List ℕ} {w : ℕ} (rest : List ℕ) → Width ds w → NoDigit rest → NoneOf (pick (eqb (length ds) 0) 9 6) rest
      → Faulty 12 (length ds) (ds ++ rest)
  no_w_here : (p : ℕ) {ds : List ℕ} {w : ℕ} (rest : List ℕ) → p < 6 → Width ds w → 0 < length ds → (get_or rest 0 0 ≡ 119 → ⊥)
      → Faulty 14 (length ds + 1) (ds ++ (get_or kind_letters p 0 ∷ rest))
  plain_left : (p : ℕ) {i : ℕ} (rest : List ℕ) → p < 9 → (p < 6 → get_or rest 0 0 ≡ 119 → ⊥) → ByteLeft i rest
      → Faulty 14 (1 + i) (get_or kind_letters p 0 ∷ rest)
  wide_left : (p : ℕ) {ds : List ℕ} {w i : ℕ} (rest : List ℕ) → p < 6 → Width ds w → ByteLeft i rest
      → Faulty 14 (length ds + 2 + i) (ds ++ (get_or kind_letters p 0 ∷ 119 ∷ rest))

abbrev pub HasFault : List ℕ → Type 0
HasFault t = (k : ℕ) × (p : ℕ) × Faulty k p t

-- a text has a fault exactly if it is no token of the grammar for any width
abbrev pub FaultFound : Type 0
FaultFound = (t : List ℕ) → ((m : Move) → Shaped t m → ⊥) ↔ HasFault t

-- why a size refuses a token: for its fault, at the fault's place; 5 for a width that is not taken, at the token's start
pub data Refusing : ℕ → ℕ → ℕ → List ℕ → Type 0 where
  for_fault : {n k p : ℕ} {t : List ℕ} → Faulty k p t → Refusing n k p t
  for_width : {n : ℕ} {t : List ℕ} (m : Move) → Shaped t m → (WidthTaken n m → ⊥) → Refusing n 5 0 t

-- a token is refused with a number at a place exactly if this is why
abbrev pub Refuses : Type 0
Refuses = (n : ℕ) (t : List ℕ) (k p : ℕ) → (read_token n t ≡ Err (fault k p)) ↔ Refusing n k p t

-- the first bad token among the words of a text: those before it are read, and the place is counted from the text's start
pub record FirstBad (n : ℕ) (ws : List Run) (k at : ℕ) : Type 0 where
  pub before : List Run
  pub word : Run
  pub after : List Run
  pub place : ℕ
  pub words_are : ws ≡ before ++ (word ∷ after)
  pub fine : (cs : List ℕ) × (reading n before ≡ codes cs)
  pub refused : Refusing n k place word.bytes
  pub counted : at ≡ word.start + place

-- a text is refused with a number at a place exactly if that is its first bad token's
abbrev pub FirstRefused : Type 0
FirstRefused = (n : ℕ) (ws : List Run) (k at : ℕ) → (reading n ws ≡ bad k at) ↔ FirstBad n ws k at

-- ---- the writer's tokens

-- a token is as the writer writes its move, or for width 2 that with a `2` before it
abbrev pub TwoTexts : Type 0
TwoTexts = (n : ℕ) (t : List ℕ) (c : ℕ) → read_token n t ≡ Ok c → (t ≡ text_of c) ⊎ (((move_of c).width ≡ 2) × (t ≡ 50 ∷ text_of c))

-- ---- reading what was written

-- reading what it wrote gives the same list
abbrev pub RoundTrips : Type 0
RoundTrips = (n : ℕ) (cs : List ℕ) → sized n ≡ true → refusal_in 2 (n - 1) cs ≡ 0 → reading n (tokens_of (list_text cs)) ≡ codes cs

-- what `write_scramble` wrote, `parse_scramble` reads as the same list, wherever there is room for it
pub record ReadBack (cs out out' : List ℕ) (r : Result ℕ ParseError) : Type 0 where
  pub answered : r ≡ Ok (length cs)
  pub left : out' ≡ over cs out

abbrev pub ReadsBack : Type 0
ReadsBack =
    (n k : ℕ) (cs text text' out out' : List ℕ) (r : Result ℕ ParseError) → WriteResult n cs text text' (Ok k)
    → ParseResult n (take k text') out out' r → length cs ≤ length out → ReadBack cs out out' r

-- the writer's output room is the exact text length
abbrev pub ExactRoom : Type 0
ExactRoom =
    (n : ℕ) (cs : List ℕ) (room : ℕ) → sized n ≡ true → refusal_in 2 (n - 1) cs ≡ 0
    → write_refusal n cs room ≡ pick (ltb room (length (list_text cs))) 6 0

-- ---- simplifying: neighbours join until none join

abbrev pub NoneJoin : Type 0
NoneJoin = (cs : List ℕ) → Reduced (simplify cs)

-- a second pass changes nothing
abbrev pub SecondPass : Type 0
SecondPass = (cs : List ℕ) → simplify (simplify cs) ≡ simplify cs

-- the simplified list is reached by joinings
abbrev pub ByJoinings : Type 0
ByJoinings = (xs : List ℕ) → Steps xs (simplify xs)

-- and whatever order they are done in, once nothing joins the list is the simplified one
abbrev pub Unique : Type 0
Unique = (xs ys : List ℕ) → Turned xs → Steps xs ys → Reduced ys → ys ≡ simplify xs

-- ---- what simplifying and inverting give is taken where the input was

abbrev pub SimplifyTaken : Type 0
SimplifyTaken = (low high : ℕ) (cs : List ℕ) → refusal_in low high cs ≡ 0 → refusal_in low high (simplify cs) ≡ 0

abbrev pub InverseTaken : Type 0
InverseTaken = (low high : ℕ) (cs : List ℕ) → refusal_in low high cs ≡ 0 → refusal_in low high (inverse cs) ≡ 0
