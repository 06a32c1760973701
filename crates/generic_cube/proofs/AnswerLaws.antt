-- Answers and slices: where something is refused, and where nothing is.
use Prim.Native.Nat.{ℕ}
use mathlib.Core.Path.{◌≡◌, sym, ◌∙◌}
use mathlib.Core.Bool.{true}
use mathlib.Core.List.{List}
use lib.Dec.{eqb}
use borrow.Author.Tests.{ne_eqb, eqb-true, eqb-false}
use native.Mathlib.Omega.{arith}
use Rattle.std.specs.Prelude.{Result, Ok, Err}
use Rattle.ground.specs.declared.refusals.Refusal.{Refusal}
use Rattle.ground.specs.Refusals.{Row, lowest, refusal}
use Rattle.ground.proofs.RefusalLaws.{listed_rows, lowest_listed}
use Rattle.ground.proofs.ChoiceLaws.{bool_cases}
use Rattle.generic_cube.specs.Answers.{answer, done, answer_no, DoneWith, AnswerWith}

-- what an answer says of the number that decides it
module _ {A : Type 0} (k : ℕ) (value : A) where
  pub ok_number : {x : A} → Ok x ≡ answer k value → (k ≡ 0) × (x ≡ value)
  ok_number {x} e =
      bool_cases (eqb k 0)
      (λ t. let q : ◌≡◌ {A = Result A Refusal} (Ok x) (Ok value) = rw t at e in (eqb-true k 0 t, cc))
      (λ t. let q : ◌≡◌ {A = Result A Refusal} (Ok x) (Err (refusal k)) = rw t at e in let z : ◌≡◌ {A = ℕ} 0 1 = cc in absurd (omega arith))

  pub err_number : {r : Refusal} → Err r ≡ answer k value → (k ≡ 0 → ⊥) × (r ≡ refusal k)
  err_number {r} e =
      bool_cases (eqb k 0)
      (λ t. let q : ◌≡◌ {A = Result A Refusal} (Err r) (Ok value) = rw t at e in let z : ◌≡◌ {A = ℕ} 0 1 = cc in absurd (omega arith))
      (λ t. let q : ◌≡◌ {A = Result A Refusal} (Err r) (Err (refusal k)) = rw t at e in (eqb-false k 0 t, cc))

-- what a check takes, has the number 0
pub done_number : (k : ℕ) {x : Unit {0}} → Ok x ≡ done k → k ≡ 0
done_number k e = (ok_number k tt e).0

-- what a check refuses, the entry that asks it refuses
pub err_answer : {B : Type 0} (k : ℕ) (value : B) {r : Refusal} → Err r ≡ done k → Err r ≡ answer k value
err_answer k value e = let w = err_number k tt e in rw (ne_eqb _ _ w.0, w.1)

module _ {good old : List ℕ} where
  pub with_refused : (k : ℕ) {r : Refusal} → Err r ≡ done k → DoneWith k good old old (Err r)
  with_refused k e = let w = err_number k tt e in record { answered = e; left = rw (ne_eqb _ _ w.0) }

  pub with_done : {k : ℕ} {new : List ℕ} → k ≡ 0 → new ≡ good → DoneWith k good old new (Ok tt)
  with_done e d = record { answered = rw e; left = d ∙ rw e }

  pub answer_refused : (k count : ℕ) {r : Refusal} → Err r ≡ done k → AnswerWith k count good old old (Err r)
  answer_refused k count e = let w = err_number k tt e in record { answered = err_answer k count e; left = rw (ne_eqb _ _ w.0) }

  pub answer_value_lem : {k count count' : ℕ} {new : List ℕ} → k ≡ 0 → count' ≡ count → new ≡ good → AnswerWith k count good old new (Ok count')
  answer_value_lem e c d = record { answered = rw (e, c); left = d ∙ rw e }

-- the number of an answer is the one that its rows give
pub number_told : {A : Type 0} (rows : List Row) (value : A) → listed_rows rows ≡ true → answer_no (answer (lowest rows) value) ≡ lowest rows
number_told rows value l =
    bool_cases (eqb (lowest rows) 0)
    (λ t. rw t (sym (eqb-true (lowest rows) 0 t)))
    (λ t. rw t (lowest_listed rows l (eqb-false (lowest rows) 0 t)))
