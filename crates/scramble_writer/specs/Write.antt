-- The text that the writer makes of a list of codes.
use Rattle.std.specs.Prelude.{ℕ, ◌+◌, ◌-◌, ◌/◌, ◌%◌, not, List, [], ◌∷◌, ◌++◌, Result, Ok, Err, ltb, eqb, length, get_or}
use Rattle.ground.specs.Choice.{pick}
use Rattle.ground.specs.Lists.{each, over}
use Rattle.ground.specs.declared.refusals.Refusal.{Refusal}
use Rattle.ground.specs.Refusals.{Row, ◌when◌, lowest}
use Rattle.generic_cube.specs.Sizes.{sized}
use Rattle.generic_cube.specs.Answers.{AnswerWith}
use Rattle.generic_cube.specs.Code.{is_wide, read_code, rows_in}
use Rattle.generic_cube.specs.declared.Move.{Move}
use Rattle.tokens.specs.Token.{kind_letters}

-- the letter of a kind: a wide kind's is its face's
unfoldable pub kind_byte : ℕ → ℕ
kind_byte k = get_or kind_letters (pick (ltb k 6) k (k - 6)) 0

-- a turn's suffix: nothing, `2` or `'`
unfoldable pub mark_text : ℕ → List ℕ
mark_text t = pick (eqb t 1) [] (pick (eqb t 2) (50 ∷ []) (39 ∷ []))

-- a width in decimal; a width of 2 is left out
unfoldable pub width_text : ℕ → List ℕ
width_text w =
    pick (eqb w 2) []
    (pick (ltb w 10) ((48 + w) ∷ [])
    (pick (ltb w 100) ((48 + w / 10) ∷ (48 + w % 10) ∷ [])
    ((48 + w / 100) ∷ (48 + w / 10 % 10) ∷ (48 + w % 10) ∷ [])))

unfoldable pub token_text : Move → List ℕ
token_text m =
    pick (is_wide m.kind) (width_text m.width ++ kind_byte m.kind ∷ 119 ∷ mark_text m.turn)
    (kind_byte m.kind ∷ mark_text m.turn)

-- a code that is refused has no text
abbrev pub code_text : Result Move Refusal → List ℕ
code_text (Ok m) = token_text m
code_text (Err r) = []

abbrev pub text_of : ℕ → List ℕ
text_of c = code_text (read_code c)

-- one space between tokens and none at the ends
unfoldable pub rest_text : List ℕ → List ℕ
rest_text cs = each cs (λ c. 32 ∷ text_of c)

unfoldable pub list_text : List ℕ → List ℕ
list_text [] = []
list_text (c ∷ cs) = text_of c ++ rest_text cs

-- 1: the size; 3, 5: a code or a width of the list, 1 and n too; 6: the output is shorter than the text
abbrev pub write_rows : ℕ → List ℕ → ℕ → List Row
write_rows n cs room = 1 when not (sized n) ∷ (rows_in 2 (n - 1) cs ++ (6 when ltb room (length (list_text cs)) ∷ []))

unfoldable pub write_refusal : ℕ → List ℕ → ℕ → ℕ
write_refusal n cs room = lowest (write_rows n cs room)

-- what `write_scramble` answers and leaves in its output
abbrev pub WriteResult : ℕ → List ℕ → List ℕ → List ℕ → Result ℕ Refusal → Type 0
WriteResult n cs out out' r =
    AnswerWith (write_refusal n cs (length out)) (length (list_text cs)) (over (list_text cs) out) out out' r
