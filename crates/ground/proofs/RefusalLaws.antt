-- The law of refusals: 0 says that every test failed; otherwise which row answered, that none before it applies, and that no number that
-- applies is lower.
use Prim.Native.Nat.{ℕ, ◌≤◌}
use mathlib.Core.Path.{◌≡◌, refl, sym, ap, ◌∙◌}
use mathlib.Core.Bool.{Bool, true, false, true≢false}
use mathlib.Core.Logic.{⊎_elim}
use mathlib.Core.List.Memᴰ
use mathlib.Core.List.{List, [], ◌∷◌, ◌++◌, Memᴰ}
use native.Mathlib.Omega.{arith}
use lib.Dec.{leb, eqb}
use borrow.Author.Tests.{leb-true, eqb-true}
use Rattle.std.specs.Prelude.{Result, Ok, Err}
use Rattle.std.specs.Result.{IsErrAnd}
use Rattle.ground.specs.Choice.{pick}
use Rattle.ground.specs.declared.refusals.Refusal.{Refusal}
use Rattle.ground.specs.declared.refusals.Refusal.TheVariants.{
  Size,
  Length,
  Code,
  Width,
  Room,
  Bounds,
  Table,
  Work,
  Index,
  Letter,
  Digits,
  Ending,
  Sign,
  Level,
}
use Rattle.ground.specs.Refusals.{Row, lowest, refusal_no, refusal}
use Rattle.ground.proofs.ChoiceLaws.{bool_cases}

-- no row applies
abbrev pub Pass : List Row → Type 0
Pass [] = Unit {0}
Pass (r ∷ rows) = (r.applies ≡ false) × Pass rows

-- rows in the numbers' order, none below k: a computed test
abbrev pub ordered : ℕ → List Row → Bool
ordered k [] = true
ordered k (r ∷ rows) = pick (leb k r.number) (ordered r.number rows) false

ordered_head : (k : ℕ) (r : Row) (rows : List Row) → ordered k (r ∷ rows) ≡ true → (k ≤ r.number) × (ordered r.number rows ≡ true)
ordered_head k r rows o =
    bool_cases (leb k r.number)
    (λ t. (leb-true k r.number t, rw t at o))
    (λ t. absurd (true≢false (sym (rw t at o))))

-- 0 SAYS THAT EVERY TEST FAILED
pub passed : (rows : List Row) → ordered 1 rows ≡ true → lowest rows ≡ 0 → Pass rows
unfolding lowest
passed rows o e = go 1 rows o (omega arith) e
  where
    go : (k : ℕ) (rows : List Row) → ordered k rows ≡ true → 1 ≤ k → lowest rows ≡ 0 → Pass rows
    go k [] o p e = tt
    go k (r ∷ rows) o p e =
        let h = ordered_head k r rows o in
        bool_cases r.applies
        (λ t. let z : r.number ≡ 0 = rw t at e in absurd (omega (arith, h.0)))
        (λ t. (t, go r.number rows h.1 (omega (arith, h.0)) (rw t at e)))

pub pass_lowest : (rows : List Row) → Pass rows → lowest rows ≡ 0
unfolding lowest
pass_lowest [] p = refl
pass_lowest (r ∷ rows) p = rw p.0 (pass_lowest rows p.1)

-- rows that come first answer, and where none of them applies, those that follow
pub lowest-front : (rows more : List Row) → (lowest rows ≡ 0 → ⊥) → lowest (rows ++ more) ≡ lowest rows
unfolding lowest
lowest-front [] more z = absurd (z refl)
lowest-front (r ∷ rows) more z =
    bool_cases r.applies (λ t. rw t) (λ t. rw t (lowest-front rows more (λ e. z (rw t e))))

pub lowest_behind : (rows more : List Row) → Pass rows → lowest (rows ++ more) ≡ lowest more
unfolding lowest
lowest_behind [] more p = refl
lowest_behind (r ∷ rows) more p = rw p.0 (lowest_behind rows more p.1)

-- WHICH ROW ANSWERED
pub record Answering (rows : List Row) : Type 0 where
  pub before : List Row
  pub row : Row
  pub after : List Row
  pub rows_are : rows ≡ before ++ (row ∷ after)
  pub failed : Pass before
  pub applied : row.applies ≡ true
  pub answers : lowest rows ≡ row.number

pub which : (rows : List Row) → (lowest rows ≡ 0 → ⊥) → Answering rows
unfolding lowest
which [] z = absurd (z refl)
which (r ∷ rows) z =
    bool_cases r.applies
    (λ t. record { before = []; row = r; after = rows; rows_are = refl; failed = tt; applied = t; answers = rw t })
    (λ t. let w = which rows (λ e. z (rw t e)) in
    record {
      before = r ∷ w.before;
      row = w.row;
      after = w.after;
      rows_are = ap (λ (x : List Row). r ∷ x) w.rows_are;
      failed = (t, w.failed);
      applied = w.applied;
      answers = rw t w.answers;
    })

-- NO NUMBER THAT APPLIES IS LOWER
pub lowest_least : (k : ℕ) (rows : List Row) → ordered k rows ≡ true → (r : Row) → Memᴰ r rows → r.applies ≡ true → lowest rows ≤ r.number
unfolding lowest
lowest_least k [] o x m a = absurd (Memᴰ.not-nil m)
lowest_least k (r ∷ rows) o x m a =
    let h = ordered_head k r rows o in
    ⊎_elim
    (λ (e : x ≡ r). let q : r.applies ≡ true = sym (ap (λ (y : Row). y.applies) e) ∙ a in rw q (omega (arith, ap (λ (y : Row). y.number) e)))
    (λ w. bool_cases r.applies
    (λ t. rw t (least r.number rows h.1 w))
    (λ t. rw t (lowest_least r.number rows h.1 x w a)))
    (Memᴰ.cases_cons m)
  where
    -- the rows behind have no lower number
    least : (j : ℕ) (rest : List Row) → ordered j rest ≡ true → Memᴰ x rest → j ≤ x.number
    least j [] q w = absurd (Memᴰ.not-nil w)
    least j (y ∷ rest) q w =
        let h = ordered_head j y rest q in
        ⊎_elim (λ (e : x ≡ y). omega (arith, h.0, ap (λ (v : Row). v.number) e)) (λ v. omega (arith, h.0, least y.number rest h.1 v)) (Memᴰ.cases_cons w)

-- WHAT `?` PASSES ON
pub passed_on : {A E : Type 0} {e : E} (r : Result A E) → IsErrAnd r (λ y. y ≡ e) → r ≡ Err e
passed_on (Err y) p = ap Err p
passed_on (Ok x) p = absurd p

-- NUMBERS AND REFUSALS
pub refusal_back : (r : Refusal) → refusal (refusal_no r) ≡ r
refusal_back Size = refl
refusal_back Length = refl
refusal_back Code = refl
refusal_back Width = refl
refusal_back Room = refl
refusal_back Bounds = refl
refusal_back Table = refl
refusal_back Work = refl
refusal_back Index = refl
refusal_back Letter = refl
refusal_back Digits = refl
refusal_back Ending = refl
refusal_back Sign = refl
refusal_back Level = refl

-- each has its own number, from 1 to 17
pub number_low : (r : Refusal) → (1 ≤ refusal_no r) × (refusal_no r ≤ 17)
number_low Size = (omega arith, omega arith)
number_low Length = (omega arith, omega arith)
number_low Code = (omega arith, omega arith)
number_low Width = (omega arith, omega arith)
number_low Room = (omega arith, omega arith)
number_low Bounds = (omega arith, omega arith)
number_low Table = (omega arith, omega arith)
number_low Work = (omega arith, omega arith)
number_low Index = (omega arith, omega arith)
number_low Letter = (omega arith, omega arith)
number_low Digits = (omega arith, omega arith)
number_low Ending = (omega arith, omega arith)
number_low Sign = (omega arith, omega arith)
number_low Level = (omega arith, omega arith)

-- one row of the table, and the rows behind it
at_row : (k i : ℕ) (c rest r : Refusal) → pick (eqb k i) c rest ≡ r → i ≡ refusal_no c → (rest ≡ r → k ≡ refusal_no r) → k ≡ refusal_no r
at_row k i c rest r e n f =
    bool_cases (eqb k i) (λ t. eqb-true k i t ∙ n ∙ ap refusal_no (rw t at e)) (λ t. f (rw t at e))

-- no other number has a refusal; the last of the table stands for every number that is not in it
pub number_only : (k : ℕ) (r : Refusal) → refusal k ≡ r → (r ≡ Level → ⊥) → k ≡ refusal_no r
number_only k r e h =
    at_row k 1 Size _ r e refl (λ e. at_row k 2 Length _ r e refl (λ e. at_row k 3 Code _ r e refl (λ e. at_row k 5 Width _ r e refl
    (λ e. at_row k 6 Room _ r e refl (λ e. at_row k 7 Bounds _ r e refl (λ e. at_row k 8 Table _ r e refl (λ e. at_row k 9 Work _ r e refl
    (λ e. at_row k 10 Index _ r e refl (λ e. at_row k 12 Letter _ r e refl (λ e. at_row k 13 Digits _ r e refl (λ e. at_row k 14 Ending _ r e refl
    (λ e. at_row k 16 Sign _ r e refl (λ e. absurd (h (sym e)))))))))))))))

-- a number, and rows whose numbers stand in the table: computed tests
abbrev pub listed : ℕ → Bool
listed k = eqb (refusal_no (refusal k)) k

abbrev pub listed_rows : List Row → Bool
listed_rows [] = true
listed_rows (r ∷ rows) = pick (listed r.number) (listed_rows rows) false

pub lowest_listed : (rows : List Row) → listed_rows rows ≡ true → (lowest rows ≡ 0 → ⊥) → refusal_no (refusal (lowest rows)) ≡ lowest rows
unfolding lowest
lowest_listed [] l z = absurd (z refl)
lowest_listed (r ∷ rows) l z =
    bool_cases (listed r.number)
    (λ t. bool_cases r.applies
    (λ u. rw u (eqb-true _ _ t))
    (λ u. rw u (lowest_listed rows (rw t at l) (rw u at z))))
    (λ t. absurd (true≢false (sym (rw t at l))))
