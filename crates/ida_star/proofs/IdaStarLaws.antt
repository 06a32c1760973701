-- What is known where nothing is refused, and the result put together.
use Prim.Native.Nat.{ℕ, ◌+◌, ◌≤◌}
use mathlib.Core.Path.{◌≡◌, refl, sym, ap, ◌∙◌}
use mathlib.Core.Bool.{true, false, not}
use mathlib.Core.List.{List, [], ◌∷◌, ◌++◌}
use native.Mathlib.Omega.{arith}
use native.Mathlib.Nat.{mul-le-mul}
use lib.Dec.{eqb, ltb}
use lib.ListN.{length, take, drop, replicate, length-append}
use lib.Seq.{length-take-le, drop_at}
use borrow.Author.Tests.{eqb-true, eq-eqb, ne_eqb, ltb-false, not-false}
use Rattle.ground.specs.Choice.{pick}
use Rattle.ground.specs.Refusals.{Row, ◌when◌, lowest}
use Rattle.ground.proofs.RefusalLaws.{passed, pass_lowest, lowest-front, lowest_behind}
use Rattle.generic_cube.specs.Sizes.{small, beyond, stickers}
use Rattle.generic_cube.specs.Code.{list_rows, list_refusal}
use Rattle.generic_cube.proofs.CodeLaws.{small_bounds, small_cube, in_reach}
use Rattle.table.specs.Table.{well_formed}
use Rattle.search_theory.specs.Search.{Reply}
use Rattle.search_theory.specs.CubeSearch.{CubeSearch}
use Rattle.std.specs.Prelude.{Option, Ok, Err}
use Rattle.ground.specs.declared.refusals.Refusal.{Refusal}
use Rattle.generic_cube.specs.Answers.{done}
use Rattle.generic_cube.proofs.AnswerLaws.{err_number, err_answer}
use Rattle.ida_star.specs.IdaStar.{levels, outcome_of, search_rows, search_refusal, Searched}
use Rattle.ida_star.specs.Inner.{Given, Starting, PassesTold, late_refusal}

-- a level of the work area, and all of them, in bytes
pub levels-small : (n limit : ℕ) → n ≤ 7 → limit ≤ 20 → levels n limit ≤ 6174
levels-small n limit h k = mul-le-mul {n₁ = limit + 1} {m₁ = stickers n} {n₂ = 21} {m₂ = 294} (omega arith) (small_cube n h)

-- nothing is refused: what the passes ask, and room in the output
pub record SearchTaken (q : CubeSearch) (work out : ℕ) : Type 0 where
  pub given : Given q.n q.table q.depth q.candidates
  pub starting : Starting q.n q.cube q.limit work
  pub slots : q.limit ≤ out

pub search_taken : (q : CubeSearch) (work out : ℕ) → search_refusal q work out ≡ 0 → SearchTaken q work out
unfolding search_refusal list_refusal
search_taken q work out e =
    let p = passed (search_rows q work out) refl e in
    let s = small_bounds q.n (not-false _ p.0) in
    let list = p.1.1 in
    let late = list.1.1 in
    let r = in_reach (length q.candidates) q.limit q.depth late.1.0 in
    record {
      given = record {
        some = s.0;
        size = s.1;
        shallow = r.shallow;
        formed = not-false _ late.1.1.0;
        listed = pass_lowest (list_rows q.n q.candidates) (list.0, (list.1.0, tt));
      };
      starting = record {
        whole = eqb-true _ _ (not-false _ p.1.0);
        low = r.low;
        room = ltb-false _ _ late.1.1.1.0;
      };
      slots = ltb-false _ _ late.0;
    }

-- where the sizes are in order the list's rows answer, and then the others
module _ (q : CubeSearch) (work out : ℕ) (sized : not (small q.n) ≡ false) (whole : length q.cube ≡ stickers q.n) where
  abbrev later_rows : List Row
  later_rows =
      6 when ltb out q.limit ∷ 7 when beyond (length q.candidates) q.limit q.depth ∷
      8 when not (well_formed (stickers q.n) q.table) ∷ 9 when ltb work (levels q.n q.limit) ∷ []

  search_list : search_refusal q work out ≡ lowest (list_rows q.n q.candidates ++ later_rows)
  unfolding search_refusal lowest
  search_list = rw (sized, eq-eqb _ _ whole)

  pub search_listed : {r : Refusal} → Err r ≡ done (list_refusal q.n q.candidates) → Err r ≡ done (search_refusal q work out)
  unfolding list_refusal
  search_listed e =
      e ∙ ap done (sym (search_list ∙ lowest-front (list_rows q.n q.candidates) later_rows (err_number (list_refusal q.n q.candidates) tt e).0))

  pub search_behind : list_refusal q.n q.candidates ≡ 0
      → search_refusal q work out ≡ pick (ltb out q.limit) 6 (pick (beyond (length q.candidates) q.limit q.depth) 7 (late_refusal q.n q.table q.limit work))
  unfolding list_refusal lowest late_refusal
  search_behind e =
      search_list ∙ lowest_behind (list_rows q.n q.candidates) later_rows (passed (list_rows q.n q.candidates) refl e)

-- a refusal, and nothing changed
pub searched_refused : (number : ℕ) {need : ℕ} {reply : Reply} {work out : List ℕ} {r : Refusal} → Err r ≡ done number
    → Searched number reply need work work out out (Err r)
searched_refused number {reply = reply} e =
    let z : eqb number 0 ≡ false = ne_eqb number 0 (err_number number tt e).0 in
    record { answered = err_answer number (outcome_of reply) e; zeroed = rw z; written = rw z }

-- the part of the work area that was lent, come back and then cleared
module _ (need : ℕ) (work part : List ℕ) (fits : need ≤ length work) (same : length part ≡ length (take need work)) where
  lent_long : length part ≡ need
  lent_long = same ∙ length-take-le need work fits

  pub part_fits : need ≤ length (part ++ drop need work)
  part_fits = simp length-append (omega (arith, lent_long))

  pub searched : {number : ℕ} {reply : Reply} {zeros out out' : List ℕ} {r : Option ℕ} → number ≡ 0
      → zeros ≡ replicate (length (take need (part ++ drop need work))) 0 → PassesTold reply out out' r
      → Searched number reply need work (zeros ++ drop need (part ++ drop need work)) out out' (Ok r)
  searched {number} z e g =
      let t : eqb number 0 ≡ true = eq-eqb number 0 z in
      record {
        answered = rw t (ap Ok g.answered);
        zeroed = rw (t, e, length-take-le need (part ++ drop need work) part_fits, drop_at part (drop need work) need lent_long);
        written = rw t g.written;
      }
