-- What the refusals leave to build on, and the result in each case.
use Prim.Native.Nat.{ℕ, ◌%◌, ◌≤◌, ◌<◌}
use mathlib.Core.Path.{◌≡◌, refl, sym, ap, ◌∙◌}
use mathlib.Core.Bool.{false, not}
use mathlib.Core.List.{List, [], ◌∷◌, ◌++◌}
use native.Mathlib.Omega.{arith}
use lib.ListN.{length, replicate}
use borrow.Author.Tests.{lt-ltb, le-ltb, eq-eqb, ne_eqb, not-false}
use Rattle.ground.specs.Choice.{pick}
use Rattle.ground.specs.Refusals.{◌when◌, lowest}
use Rattle.ground.proofs.RefusalLaws.{passed, pass_lowest, lowest-front, lowest_behind}
use Rattle.std.specs.Prelude.{Ok, Err}
use Rattle.ground.specs.declared.refusals.Refusal.{Refusal}
use Rattle.ground.specs.declared.refusals.Refusal.TheVariants.{Room}
use Rattle.generic_cube.specs.Answers.{done}
use Rattle.generic_cube.proofs.AnswerLaws.{err_number, err_answer}
use Rattle.generic_cube.specs.Sizes.{small, beyond, stickers}
use Rattle.generic_cube.specs.Code.{list_rows, list_refusal}
use Rattle.generic_cube.proofs.CodeLaws.{small_bounds, in_reach}
use Rattle.table.specs.Table.{entry_count}
use Rattle.search_theory.specs.CubeSearch.{moved_by}
use Rattle.table_theory.specs.Built.{table_of, starts_of}
use Rattle.table_theory.specs.Exact.{Start, Exactly}
use Rattle.table_theory.proofs.AddLaws.{sorted_rising}
use Rattle.table_theory.proofs.CountLaws.{built_counts, built_sorted, counts_exact}
use Rattle.table_theory.proofs.RisingLaws.{exact_count}
use Rattle.table_theory.proofs.ExactLaws.{over_exact, one_buffer}
use Rattle.pruning_table.specs.PruningTable.{early_rows, early_refusal, outnumbered, pruning_refusal, pruning_out, PruningTableResult}
use Rattle.table_level.specs.Inner.{BuildReady}

-- what is known where nothing was refused
pub early_ready : (n starts : ℕ) (moves : List ℕ) (depth : ℕ) → early_refusal n starts moves depth ≡ 0 → BuildReady n depth moves
unfolding early_refusal list_refusal
early_ready n starts moves depth e =
    let p = passed (early_rows n starts moves depth) refl e in
    let size = small_bounds n (not-false (small n) p.0) in
    let reach = in_reach (length moves) 0 depth p.1.1.1.1.0 in
    record {
      turning = record { some = size.0; size = size.1; good = pass_lowest (list_rows n moves) (p.1.1.0, (p.1.1.1.0, tt)) };
      few = reach.few;
      shallow = reach.shallow;
    }

-- where the sizes are in order the list's rows answer, and then row 7
module _ (n starts : ℕ) (moves : List ℕ) (depth : ℕ) (sized : not (small n) ≡ false) (whole : starts % stickers n ≡ 0) where
  early_list : early_refusal n starts moves depth ≡ lowest (list_rows n moves ++ (7 when beyond (length moves) 0 depth ∷ []))
  unfolding early_refusal lowest
  early_list = rw (sized, eq-eqb _ _ whole)

  pub early_listed : {r : Refusal} → Err r ≡ done (list_refusal n moves) → Err r ≡ done (early_refusal n starts moves depth)
  unfolding list_refusal
  early_listed e = e ∙ ap done (sym (early_list ∙ lowest-front (list_rows n moves) _ (err_number (lowest (list_rows n moves)) tt e).0))

  pub early_behind : list_refusal n moves ≡ 0 → early_refusal n starts moves depth ≡ pick (beyond (length moves) 0 depth) 7 0
  unfolding list_refusal lowest
  early_behind e =
      early_list
      ∙ lowest_behind (list_rows n moves) (7 when beyond (length moves) 0 depth ∷ []) (passed (list_rows n moves) refl e)

-- an early refusal is given, and where there is none it is 6 or nothing
module _ (n : ℕ) (starts moves : List ℕ) (depth : ℕ) (t : List ℕ) where
  pub refusal_early : (early_refusal n (length starts) moves depth ≡ 0 → ⊥) → pruning_refusal n starts moves depth t ≡ early_refusal n (length starts) moves depth
  unfolding pruning_refusal early_refusal
  refusal_early z = lowest-front (early_rows n (length starts) moves depth) (6 when outnumbered n starts moves depth t ∷ []) z

  pub refusal_late : early_refusal n (length starts) moves depth ≡ 0 → pruning_refusal n starts moves depth t ≡ pick (outnumbered n starts moves depth t) 6 0
  unfolding pruning_refusal early_refusal lowest
  refusal_late e =
      lowest_behind (early_rows n (length starts) moves depth) (6 when outnumbered n starts moves depth t ∷ [])
      (passed (early_rows n (length starts) moves depth) refl e)

module _ (n : ℕ) (starts moves : List ℕ) (depth : ℕ) (t : List ℕ) where
  -- the result of an early refusal
  pub result_refused : {r : Refusal} → Err r ≡ done (early_refusal n (length starts) moves depth) → PruningTableResult n starts moves depth t t (Err r)
  unfolding pruning_out
  result_refused e =
      let z = (err_number (early_refusal n (length starts) moves depth) tt e).0 in
      record {
        answered = rw (refusal_early n starts moves depth t z) (err_answer _ _ e);
        left = simp (ne_eqb _ _ z);
      }

  module _ (e : early_refusal n (length starts) moves depth ≡ 0) where
    -- of states that have no room
    pub result_over : {t' : List ℕ} → entry_count (stickers n) t < length (table_of n starts moves depth) → t' ≡ replicate (length t) 0
        → PruningTableResult n starts moves depth t t' (Err Room)
    unfolding pruning_out
    result_over h f =
        record {
          answered = simp (refusal_late n starts moves depth t e, lt-ltb _ _ h);
          left = f ∙ simp (eq-eqb _ _ e, lt-ltb _ _ h);
        }

    -- of a table that meets the rule
    pub result_exact : {t' : List ℕ} {count : ℕ} → 0 < stickers n → Exactly n starts moves depth t t' count → PruningTableResult n starts moves depth t t' (Ok count)
    unfolding pruning_out
    result_exact {t'} {count} some x =
        let table = table_of n starts moves depth in
        let c : count ≡ length table =
        exact_count (moved_by n) moves (Start n starts) x.rising (sorted_rising table (built_sorted n (starts_of n starts) moves depth)) x.exact
        (counts_exact n (starts_of n starts) moves (built_counts n (starts_of n starts) moves depth)) in
        let few : length table ≤ entry_count (stickers n) t = omega (arith, c, x.room) in
        record {
          answered = ap Ok c ∙ simp (refusal_late n starts moves depth t e, le-ltb _ _ few);
          left = one_buffer x (over_exact n starts moves depth some t few) ∙ simp (eq-eqb _ _ e, le-ltb _ _ few);
        }
