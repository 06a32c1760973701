-- `check_early`: each return is a case of `early_refusal`, in its order.
use native.Mathlib.Omega.{arith}
use Prim.Native.Nat.{◌≤◌}
use mathlib.Core.Path.{◌≡◌, sym, ap, ◌∙◌}
use mathlib.Core.Bool.{false, not}
use lib.ListN.{length}
use borrow.Author.Tests.{ne_eqb, not-false}
use Rattle.ground.specs.Choice.{pick}
use Rattle.ground.specs.Refusals.{lowest}
use Rattle.ground.proofs.RefusalLaws.{passed_on}
use Rattle.generic_cube.specs.Sizes.{small, beyond}
use Rattle.generic_cube.specs.Answers.{done}
use Rattle.generic_cube.proofs.AnswerLaws.{done_number}
use Rattle.generic_cube.proofs.CodeLaws.{small_bounds, small_cube}
use Rattle.pruning_table.specs.PruningTable.{early_refusal}
use Rattle.pruning_table.proofs.ResultLaws.{early_listed, early_behind}
use Rattle.table_level.proofs.SizeLaws.{cube_some}
use Rattle.pruning_table.proofs.check_early.Goals as goal
use Rattle.pruning_table.proofs.check_early.Goals.{Else-not-is_small, In_ok-check_moves}

sized : (c : Else-not-is_small) → not (small c.args.n) ≡ false
sized c = ap not (sym c.is_small.ensures ∙ c.if-not-is_small.false)

bounds : (c : Else-not-is_small) → (1 ≤ c.args.n) × (c.args.n ≤ 7)
bounds c = small_bounds _ (not-false _ (sized c))

-- the list is in order: row 7 is left
behind : (c : In_ok-check_moves) → let a = c.args in early_refusal a.n a.starts a.moves.now a.depth ≡ pick (beyond (length a.moves.now) 0 a.depth) 7 0
behind c =
    early_behind _ _ _ _ (ap not (sym c.is_small.ensures ∙ c.if-not-is_small.false)) c.if-starts-n-ne0.false (done_number _ c.in_ok-check_moves.ensures)

pub returns-then-not-is_small : goal.returns-then-not-is_small
unfolding early_refusal lowest
returns-then-not-is_small c = simp (ap not (sym c.is_small.ensures ∙ c.if-not-is_small.true))

pub overflow_mul-n : goal.overflow_mul-n
overflow_mul-n c = omega (arith, bounds c)

pub overflow_mul-n-2 : goal.overflow_mul-n-2
overflow_mul-n-2 c = omega (arith, small_cube _ (bounds c).1)

pub nonzero_rem-starts : goal.nonzero_rem-starts
nonzero_rem-starts c = omega (arith, cube_some (bounds c).0)

pub returns-then-starts-n-ne0 : goal.returns-then-starts-n-ne0
unfolding early_refusal lowest
returns-then-starts-n-ne0 c = simp ((sized (goal.at.returns-then-starts-n-ne0 c).Else-not-is_small), ne_eqb _ _ c.if-starts-n-ne0.true)

pub returns-in_err-check_moves : goal.returns-in_err-check_moves
returns-in_err-check_moves c =
    passed_on _ c.from_residual.ensures.1
    ∙ early_listed _ _ _ _ (sized (goal.at.returns-in_err-check_moves c).Else-not-is_small) c.if-starts-n-ne0.false c.in_err-check_moves.ensures

pub returns-then-is_beyond : goal.returns-then-is_beyond
returns-then-is_beyond c =
    sym (ap done (behind (goal.at.returns-then-is_beyond c).In_ok-check_moves) ∙ rw (sym c.is_beyond.ensures ∙ c.if-is_beyond.true))

pub returns : goal.returns
returns c =
    let near : beyond (length c.args.moves.now) 0 c.args.depth ≡ false = sym c.is_beyond.ensures ∙ c.if-is_beyond.false in
    sym (ap done (behind (goal.at.returns c).In_ok-check_moves) ∙ rw near)
