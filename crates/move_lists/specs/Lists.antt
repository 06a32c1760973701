-- Lists of codes: simplifying and inverting.
use Rattle.std.specs.Prelude.{ℕ, ◌+◌, ◌-◌, ◌%◌, ◌<◌, ◌≡◌, true, false, not, List, [], ◌∷◌, ◌++◌, length, replicate, Result, eqb, ltb}
use Rattle.ground.specs.Choice.{pick}
use Rattle.ground.specs.Lists.{over}
use Rattle.ground.specs.Refusals.{Row, ◌when◌, lowest}
use Rattle.generic_cube.specs.Sizes.{sized}
use Rattle.generic_cube.specs.Answers.{AnswerWith}
use Rattle.generic_cube.specs.Code.{code_of, move_of, turned_to, back, joins, list_rows}
use Rattle.ground.specs.declared.refusals.Refusal.{Refusal}

-- ---- simplifying

-- turns add modulo 4
abbrev pub turn_sum : ℕ → ℕ → ℕ
turn_sum c d = ((move_of c).turn + (move_of d).turn) % 4

abbrev pub joined : ℕ → ℕ → ℕ
joined c d = turned_to c (turn_sum c d)

-- two neighbours that join, in front of what follows: a sum of 0 vanishes
abbrev pub join : ℕ → ℕ → List ℕ → List ℕ
join c d rest = pick (eqb (turn_sum c d) 0) rest (joined c d ∷ rest)

-- a move in front of a list that nothing joins in
unfoldable pub push : ℕ → List ℕ → List ℕ
push c [] = c ∷ []
push c (x ∷ xs) = pick (joins c x) (join c x xs) (c ∷ x ∷ xs)

unfoldable pub simplify : List ℕ → List ℕ
simplify [] = []
simplify (c ∷ cs) = push c (simplify cs)

-- ---- what the result is to be: joined until none join

-- c does not join with the first of the list
abbrev pub Apart : ℕ → List ℕ → Type 0
Apart c [] = Unit {0}
Apart c (x ∷ xs) = joins c x ≡ false

-- no neighbours join
abbrev pub Reduced : List ℕ → Type 0
Reduced [] = Unit {0}
Reduced (c ∷ cs) = Apart c cs × Reduced cs

-- no turn is 0
abbrev pub Turned : List ℕ → Type 0
Turned [] = Unit {0}
Turned (c ∷ cs) = (0 < (move_of c).turn) × Turned cs

-- one joining of two neighbours, anywhere in the list
pub data Step : List ℕ → List ℕ → Type 0 where
  here : (c d : ℕ) (rest : List ℕ) → joins c d ≡ true → Step (c ∷ d ∷ rest) (join c d rest)
  there : (c : ℕ) {xs ys : List ℕ} → Step xs ys → Step (c ∷ xs) (c ∷ ys)

-- any number of them, one after the other
pub data Steps : List ℕ → List ℕ → Type 0 where
  done : (xs : List ℕ) → Steps xs xs
  then : {xs ys zs : List ℕ} → Step xs ys → Steps ys zs → Steps xs zs

-- ---- inverting

-- each turn t becomes 4 - t
unfoldable pub inverse_of : ℕ → ℕ
inverse_of c = code_of (back (move_of c))

-- and the order is reversed
unfoldable pub inverse : List ℕ → List ℕ
inverse [] = []
inverse (c ∷ cs) = inverse cs ++ inverse_of c ∷ []

-- ---- refusals and results

-- 1: the size; 3, 5: a code or a width of the list; 6: the output is shorter than the input
abbrev pub same_rows : ℕ → List ℕ → ℕ → List Row
same_rows n cs room = 1 when not (sized n) ∷ (list_rows n cs ++ (6 when ltb room (length cs) ∷ []))

unfoldable pub same_refusal : ℕ → List ℕ → ℕ → ℕ
same_refusal n cs room = lowest (same_rows n cs room)

-- what `simplify_moves` answers and leaves in its output: zeros up to the input's length, what lies after stays
abbrev pub SimplifyResult : ℕ → List ℕ → List ℕ → List ℕ → Result ℕ Refusal → Type 0
SimplifyResult n cs out out' r =
    AnswerWith (same_refusal n cs (length out)) (length (simplify cs)) (over (simplify cs ++ replicate (length cs - length (simplify cs)) 0) out)
    out out' r

-- what `invert_moves` answers and leaves in its output
abbrev pub InvertResult : ℕ → List ℕ → List ℕ → List ℕ → Result ℕ Refusal → Type 0
InvertResult n cs out out' r = AnswerWith (same_refusal n cs (length out)) (length cs) (over (inverse cs) out) out out' r
