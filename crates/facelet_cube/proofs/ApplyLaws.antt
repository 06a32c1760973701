-- Laws of moving and of the list runner. One proof serves letters and ids: a slice of either is a list of numbers.
use Prim.Native.Nat.{ℕ, ◌+◌, ◌<◌, ◌≤◌}
use mathlib.Core.Path.{◌≡◌, refl, sym, ap, ◌∙◌}
use mathlib.Core.Bool.{true, not}
use mathlib.Core.List.{List, ◌∷◌, ◌++◌}
use native.Mathlib.Omega.{arith}
use native.Mathlib.Numerals.{add-one}
use lib.ListN.{length, get_or, drop, replicate, drop_of_length-le}
use lib.Seq.{drop-cons}
use lib.Dec.{eqb}
use borrow.Author.Tests.{eqb-true, ne_eqb, eq-eqb, not-false}
use Rattle.std.specs.Prelude.{Ok, Err}
use Rattle.ground.specs.declared.refusals.Refusal.{Refusal}
use Rattle.ground.specs.Refusals.{◌when◌, lowest}
use Rattle.ground.proofs.RefusalLaws.{passed, pass_lowest}
use Rattle.generic_cube.specs.declared.Move.{Move}
use Rattle.generic_cube.specs.Answers.{done}
use Rattle.generic_cube.proofs.AnswerLaws.{err_number}
use Rattle.generic_cube.specs.Sizes.{sized, stickers}
use Rattle.generic_cube.specs.Code.{move_of, list_rows, list_refusal}
use Rattle.generic_cube.proofs.CodeLaws.{size_in_range, bounds_sized}
use Rattle.geometric_moves.specs.Turn.{moved, run}
use Rattle.geometric_moves.proofs.MovedLaws.{length_moved}
use Rattle.facelet_cube.specs.Inner.{Whole, Runnable}
use Rattle.facelet_cube.specs.Cube.{cube_rows, cube_refusal}
use Rattle.facelet_cube.proofs.CubeLaws.{refused_here, taken_here, sized_rows}
use Rattle.facelet_cube.specs.Apply.{apply_rows, apply_refusal, ApplyMovesResult}

-- nothing is refused
pub runnable : (n cube work : ℕ) (moves : List ℕ) → apply_refusal n cube work moves ≡ 0 → Runnable n cube work moves
unfolding apply_refusal list_refusal
runnable n cube work moves e =
    let p = passed (apply_rows n cube work moves) refl e in
    record {
      size = size_in_range (not-false _ p.0);
      cube_long = eqb-true _ _ (not-false _ p.1.0);
      work_long = eqb-true _ _ (not-false _ p.1.1.0);
      list = pass_lowest (list_rows n moves) (p.1.1.1.0, (p.1.1.1.1.0, tt));
    }

-- where the sizes are in order the list's refusal is the answer
pub apply_list : (n cube work : ℕ) (moves : List ℕ) → sized n ≡ true → cube ≡ stickers n → work ≡ stickers n
    → apply_refusal n cube work moves ≡ list_refusal n moves
unfolding apply_refusal list_refusal lowest
apply_list n cube work moves s a b = rw (s, eq-eqb _ _ a, eq-eqb _ _ b)

pub runnable_applies : {n cube work : ℕ} {moves : List ℕ} → Runnable n cube work moves → apply_refusal n cube work moves ≡ 0
runnable_applies {n} {cube} {work} {moves} g =
    apply_list n cube work moves (bounds_sized n g.size.some g.size.size) g.cube_long g.work_long ∙ g.list

-- moving asks nothing of the work area
pub runnable_cube : {n cube work : ℕ} {moves : List ℕ} → Runnable n cube work moves → Runnable n cube cube moves
runnable_cube g = record { size = g.size; cube_long = g.cube_long; work_long = g.cube_long; list = g.list }

-- the loop over the moves: what is left of the list, run on the cube as it is now, gives what the whole list gives
pub record Running (n : ℕ) (moves cube₀ cube : List ℕ) (i : ℕ) : Type 0 where
  pub most : i ≤ length moves
  pub cube_long : length cube ≡ stickers n
  pub rest : run n (drop i moves) cube ≡ run n moves cube₀

module _ {n : ℕ} {moves cube₀ : List ℕ} where
  pub runs_more : {cube cube' : List ℕ} {m : Move} {i : ℕ} → Running n moves cube₀ cube i → i < length moves
      → m ≡ move_of (get_or moves i 0) → cube' ≡ moved n m cube → Running n moves cube₀ cube' (i + 1)
  unfolding run
  runs_more {cube} {cube'} {m} {i} r h d e =
      let s : drop i moves ≡ get_or moves i 0 ∷ drop (i + 1) moves = rw add-one (drop-cons moves i 0 h) in
      record {
        most = omega arith;
        cube_long = ap length e ∙ length_moved n m cube;
        rest = ap (run n (drop (i + 1) moves)) (e ∙ ap (λ x. moved n x cube) d) ∙ ap (λ x. run n x cube) (sym s) ∙ r.rest;
      }

  pub runs_all : {cube : List ℕ} {i : ℕ} → Running n moves cube₀ cube i → length moves ≤ i → cube ≡ run n moves cube₀
  unfolding run
  runs_all {cube} {i} r h = rw (drop_of_length-le moves h) at r.rest

-- the checks of the entry: the cube, the work area, then the list
module _ (n cube work : ℕ) (moves : List ℕ) where
  pub apply_cube : {r : Refusal} → Err r ≡ done (cube_refusal n cube) → Err r ≡ done (apply_refusal n cube work moves)
  unfolding apply_refusal
  apply_cube e = refused_here n cube (2 when not (eqb work (stickers n)) ∷ list_rows n moves) refl e

  module _ (w : Whole n cube) where
    apply_behind_cube : apply_refusal n cube work moves ≡ lowest (cube_rows n work ++ list_rows n moves)
    unfolding apply_refusal
    apply_behind_cube = taken_here n cube (2 when not (eqb work (stickers n)) ∷ list_rows n moves) w ∙ sized_rows n work (list_rows n moves) w.size

    pub apply_work : {r : Refusal} → Err r ≡ done (cube_refusal n work) → Err r ≡ done (apply_refusal n cube work moves)
    apply_work e = refused_here n work (list_rows n moves) apply_behind_cube e

    pub apply_moves_rows : Whole n work → apply_refusal n cube work moves ≡ list_refusal n moves
    unfolding list_refusal
    apply_moves_rows k = apply_behind_cube ∙ taken_here n work (list_rows n moves) k

-- the entry: refused, and done
pub apply_refused : (n : ℕ) (cube work moves : List ℕ) {r : Refusal} → Err r ≡ done (apply_refusal n (length cube) (length work) moves)
    → ApplyMovesResult n cube work moves cube work (Err r)
apply_refused n cube work moves e =
    let z = ne_eqb _ _ (err_number _ tt e).0 in record { answered = e; cube_is = rw z; work_is = rw z }

pub apply_done : (n : ℕ) (cube work moves : List ℕ) {cube' work' : List ℕ} → apply_refusal n (length cube) (length work) moves ≡ 0
    → cube' ≡ run n moves cube → work' ≡ replicate (stickers n) 0 → ApplyMovesResult n cube work moves cube' work' (Ok tt)
apply_done n cube work moves e a b = record { answered = rw e; cube_is = a ∙ rw e; work_is = b ∙ rw e }
