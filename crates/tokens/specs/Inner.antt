-- Inner contracts: what the walks over a text and over a token ask and tell.
use Rattle.std.specs.Prelude.{ℕ, ◌-◌, ◌<◌, ◌≤◌, ◌≡◌, Bool, true, false, List, [], ◌∷◌, Option, None, Some, length, get_or, take, drop}
use Rattle.tokens.specs.Token.{letter_of, letter_at, bad_digits, no_letter}
use Rattle.tokens.specs.Words.{is_space, group_signs, words_from}
use Rattle.tokens.specs.declared.words.Word.{Word}

-- ---- words

-- the signs of a text with groups, and of one without
abbrev pub signs_of : Bool → List ℕ
signs_of true = group_signs
signs_of false = []

-- the place i was moved to r over spaces
pub record Skipped (text : List ℕ) (i r : ℕ) : Type 0 where
  pub from : i ≤ r
  pub within : r ≤ length text
  pub same : (signs : List ℕ) → words_from signs text i ≡ words_from signs text r
  pub stops : r < length text → is_space (get_or text r 0) ≡ false

-- the word from s to e is the first from i on
pub record Found (signs text : List ℕ) (i s e : ℕ) : Type 0 where
  pub from : i ≤ s
  pub some : s < e
  pub within : e ≤ length text
  pub one : words_from signs text i ≡ record { start = s; bytes = take (e - s) (drop s text) } ∷ words_from signs text e

abbrev pub Ahead : List ℕ → List ℕ → ℕ → Option Word → Type 0
Ahead signs text i None = words_from signs text i ≡ []
Ahead signs text i (Some w) = Found signs text i w.start w.end

-- ---- a letter, and a token that was read up to its letter, the one with that place

abbrev pub LetterPlace : ℕ → Option ℕ → Type 0
LetterPlace b None = letter_of b ≡ 9
LetterPlace b (Some place) = (place ≡ letter_of b) × (place < 9)

abbrev pub FacePlace : ℕ → Option ℕ → Type 0
FacePlace b None = 6 ≤ letter_of b
FacePlace b (Some place) = (place ≡ letter_of b) × (place < 6)

pub record Lettered (t : List ℕ) (k place : ℕ) : Type 0 where
  pub digits : bad_digits t k ≡ false
  pub letter : place ≡ letter_at t k
  pub some : no_letter t k ≡ false
