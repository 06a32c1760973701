-- Refusals: their numbers, an entry's tests as the rows of one list, and the number that they answer.
use Rattle.std.specs.Prelude.{ℕ, Bool, List, [], ◌∷◌, eqb}
use Rattle.ground.specs.Choice.{pick}
use Rattle.ground.specs.declared.refusals.Refusal.{Refusal}
use Rattle.ground.specs.declared.refusals.Refusal.TheVariants.{
  Size,
  Length,
  Code,
  Width,
  Room,
  Bounds,
  Table,
  Work,
  Index,
  Letter,
  Digits,
  Ending,
  Sign,
  Level,
}

-- the number of a refusal in the rules' table
abbrev pub refusal_no : Refusal → ℕ
refusal_no Size = 1
refusal_no Length = 2
refusal_no Code = 3
refusal_no Width = 5
refusal_no Room = 6
refusal_no Bounds = 7
refusal_no Table = 8
refusal_no Work = 9
refusal_no Index = 10
refusal_no Letter = 12
refusal_no Digits = 13
refusal_no Ending = 14
refusal_no Sign = 16
refusal_no Level = 17

-- the refusal that has a number of that table
abbrev pub refusal : ℕ → Refusal
refusal k =
    pick (eqb k 1) Size
    (pick (eqb k 2) Length
    (pick (eqb k 3) Code
    (pick (eqb k 5) Width
    (pick (eqb k 6) Room
    (pick (eqb k 7) Bounds
    (pick (eqb k 8) Table
    (pick (eqb k 9) Work
    (pick (eqb k 10) Index
    (pick (eqb k 12) Letter
    (pick (eqb k 13) Digits
    (pick (eqb k 14) Ending
    (pick (eqb k 16) Sign Level))))))))))))

-- a row: a number of the table of refusals, and whether it applies
pub record Row : Type 0 where
  pub number : ℕ
  pub applies : Bool

infix 68 ◌when◌
abbrev pub ◌when◌ : ℕ → Bool → Row
k when t = record { number = k; applies = t }

-- the number of the first row that applies, 0 for none. Rows stand in the numbers' order, so that it is the lowest that applies; where a rule
-- says that a number comes last, its row does
unfoldable pub lowest : List Row → ℕ
lowest [] = 0
lowest (r ∷ rows) = pick r.applies r.number (lowest rows)
