-- The answers of entries: a refusal's number decides them.
use Rattle.std.specs.Prelude.{ℕ, ◌≡◌, List, Result, Ok, Err, eqb}
use Rattle.ground.specs.Choice.{pick}
use Rattle.ground.specs.declared.refusals.Refusal.{Refusal}
use Rattle.ground.specs.Refusals.{refusal_no, refusal}

-- the answer of an entry: what it gives back, a count or an index, unless it is refused
abbrev pub answer : {A : Type 0} → ℕ → A → Result A Refusal
answer k value = pick (eqb k 0) (Ok value) (Err (refusal k))

-- the answer of an entry that gives nothing back
abbrev pub done : ℕ → Result (Unit {0}) Refusal
done k = answer k tt

-- what a lent slice is at exit: `good` where nothing is refused, else what it was
abbrev pub unless : ℕ → List ℕ → List ℕ → List ℕ
unless k good old = pick (eqb k 0) good old

-- the rules' number of each case, 0 where nothing is refused
abbrev pub answer_no : {A : Type 0} → Result A Refusal → ℕ
answer_no (Ok value) = 0
answer_no (Err r) = refusal_no r

-- and its value, 0 where something is refused
abbrev pub answer_value : Result ℕ Refusal → ℕ
answer_value (Ok value) = value
answer_value (Err r) = 0

-- the result of an entry that changes one lent slice
pub record DoneWith (k : ℕ) (good old new : List ℕ) (r : Result (Unit {0}) Refusal) : Type 0 where
  pub answered : r ≡ done k
  pub left : new ≡ unless k good old

-- the result of an entry that counts what it writes into one lent slice
pub record AnswerWith (k count : ℕ) (good old new : List ℕ) (r : Result ℕ Refusal) : Type 0 where
  pub answered : r ≡ answer k count
  pub left : new ≡ unless k good old
