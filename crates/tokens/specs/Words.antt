-- The words of a text, each with the place where it starts: its longest parts without spaces. Where a text has signs, each is a word of its
-- own, and ends the word before it.
use Rattle.std.specs.Prelude.{ℕ, ◌+◌, Bool, true, false, ◌||◌, List, [], ◌∷◌, drop, eqb}
use Rattle.ground.specs.Choice.{pick, between, any}

-- tokens are parted by the bytes 9 to 13 and 32
unfoldable pub is_space : ℕ → Bool
is_space b = eqb b 32 || between 9 13 b

-- the signs of groups: ( ) [ ] , :
abbrev pub group_signs : List ℕ
group_signs = 40 ∷ 41 ∷ 91 ∷ 93 ∷ 44 ∷ 58 ∷ []

unfoldable pub is_sign : List ℕ → ℕ → Bool
is_sign signs b = any (λ s. eqb s b) signs

-- a word ends at a space and at a sign
unfoldable pub ends_word : List ℕ → ℕ → Bool
ends_word signs b = is_space b || is_sign signs b

pub record Run : Type 0 where
  pub start : ℕ
  pub bytes : List ℕ

-- the bytes up to where a word ends
unfoldable pub word_bytes : List ℕ → List ℕ → List ℕ
word_bytes signs [] = []
word_bytes signs (b ∷ bs) = pick (ends_word signs b) [] (b ∷ word_bytes signs bs)

-- the words that start from the place `at` on, where what stands there is `bs`; `inside` says that the byte before it is a word's
unfoldable pub words : List ℕ → ℕ → Bool → List ℕ → List Run
words signs at inside [] = []
words signs at inside (b ∷ bs) =
    pick (is_space b) (words signs (at + 1) false bs)
    (pick (is_sign signs b) (record { start = at; bytes = b ∷ [] } ∷ words signs (at + 1) false bs)
    (pick inside (words signs (at + 1) true bs)
    (record { start = at; bytes = b ∷ word_bytes signs bs } ∷ words signs (at + 1) true bs)))

-- the words of a text from a place on that stands in no word
abbrev pub words_from : List ℕ → List ℕ → ℕ → List Run
words_from signs text i = words signs i false (drop i text)

-- a scramble has no signs
abbrev pub tokens_of : List ℕ → List Run
tokens_of text = words_from [] text 0
