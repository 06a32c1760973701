-- The index of a sticker, from its face's letter and its number on that face.
use Rattle.std.specs.Prelude.{ℕ, ◌+◌, ◌-◌, ◌*◌, not, List, [], ◌∷◌, eqb, ◌==◌}
use Rattle.std.specs.List.{position_or_len}
use Rattle.ground.specs.Refusals.{Row, ◌when◌, lowest}
use Rattle.generic_cube.specs.Sizes.{sized, letters}
use Rattle.generic_cube.specs.Code.{outside}

-- the place of a letter among the six, 6 for any other byte
abbrev pub face_number : ℕ → ℕ
face_number b = position_or_len (λ x. x == b) letters

-- 1: the size; 10: the face isn't one of the six letters, or the index isn't 1 to n²
abbrev pub sticker_rows : ℕ → ℕ → ℕ → List Row
sticker_rows n face i = 1 when not (sized n) ∷ 10 when eqb (face_number face) 6 ∷ 10 when outside 1 (n * n) i ∷ []

unfoldable pub sticker_refusal : ℕ → ℕ → ℕ → ℕ
sticker_refusal n face i = lowest (sticker_rows n face i)

-- faces in order, n² stickers each, counted from 1 on the face and from 0 on the cube
unfoldable pub sticker_index : ℕ → ℕ → ℕ → ℕ
sticker_index n face i = face_number face * n * n + i - 1
