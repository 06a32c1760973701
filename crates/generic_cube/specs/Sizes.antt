-- Sizes of a cube, the letters of its faces, and how far tables and searches go.
use Rattle.std.specs.Prelude.{ℕ, ◌*◌, Bool, ◌||◌, List, [], ◌∷◌, ltb}
use Rattle.ground.specs.Choice.{between}

-- size n is 1 to 104
unfoldable pub sized : ℕ → Bool
sized n = between 1 104 n

-- tables and search: n 1 to 7
unfoldable pub small : ℕ → Bool
small n = between 1 7 n

-- 7: more than 255 candidates, or limit or depth above 20
unfoldable pub beyond : ℕ → ℕ → ℕ → Bool
beyond count limit depth = ltb 255 count || ltb 20 limit || ltb 20 depth

-- a cube has 6n² stickers
abbrev pub stickers : ℕ → ℕ
stickers n = 6 * n * n

-- the letters of the faces in their order, U R F D L B; and X, of a masked sticker
abbrev pub letters : List ℕ
letters = 85 ∷ 82 ∷ 70 ∷ 68 ∷ 76 ∷ 66 ∷ []

abbrev pub letter_x : ℕ
letter_x = 88
