-- All moves of a size, in the source's loops.
use Rattle.std.specs.Prelude.{ℕ, ◌/◌, not, List, [], ◌∷◌, ◌++◌, ltb, length, Result}
use Rattle.ground.specs.Lists.{each, up_from, over}
use Rattle.ground.specs.Refusals.{Row, ◌when◌, lowest}
use Rattle.generic_cube.specs.Sizes.{sized}
use Rattle.generic_cube.specs.Answers.{AnswerWith}
use Rattle.generic_cube.specs.Code.{move, code_of}
use Rattle.ground.specs.declared.refusals.Refusal.{Refusal}

-- a kind and turn, in each width; a kind, in each turn; each kind
abbrev pub widths_of : List ℕ → ℕ → ℕ → List ℕ
widths_of widths k t = each widths (λ w. code_of (move k w t) ∷ [])

abbrev pub turns_of : List ℕ → ℕ → List ℕ
turns_of widths k = each (1 ∷ 2 ∷ 3 ∷ []) (widths_of widths k)

unfoldable pub moves_of : List ℕ → List ℕ → List ℕ
moves_of kinds widths = each kinds (turns_of widths)

-- faces go U R F L D B; wide kinds go Uw Lw Fw Rw Bw Dw, each in the widths 1 to n/2
abbrev pub face_kinds : List ℕ
face_kinds = 0 ∷ 3 ∷ 2 ∷ 1 ∷ 5 ∷ 4 ∷ []

abbrev pub wide_kinds : List ℕ
wide_kinds = 6 ∷ 7 ∷ 8 ∷ 9 ∷ 10 ∷ 11 ∷ []

unfoldable pub all_moves : ℕ → List ℕ
all_moves n = moves_of face_kinds (0 ∷ []) ++ moves_of wide_kinds (up_from 1 (n / 2))

-- 1: the size; 6: the output is too short
abbrev pub all_rows : ℕ → ℕ → List Row
all_rows n room = 1 when not (sized n) ∷ 6 when ltb room (length (all_moves n)) ∷ []

unfoldable pub all_refusal : ℕ → ℕ → ℕ
all_refusal n room = lowest (all_rows n room)

-- what `all_moves` answers and leaves in its output
abbrev pub AllMovesResult : ℕ → List ℕ → List ℕ → Result ℕ Refusal → Type 0
AllMovesResult n out out' r = AnswerWith (all_refusal n (length out)) (length (all_moves n)) (over (all_moves n) out) out out' r
