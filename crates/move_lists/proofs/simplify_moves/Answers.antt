-- `simplify_moves`: the stack, then zeros up to the input's length.
use mathlib.Core.Path.{◌≡◌}
use lib.ListN.{length}
use Rattle.ground.proofs.RefusalLaws.{passed_on}
use Rattle.generic_cube.proofs.AnswerLaws.{done_number, answer_refused}
use Rattle.move_lists.specs.Lists.{same_refusal}
use Rattle.move_lists.proofs.ListLaws.{fitting, fitting_turned, simplify-done}
use Rattle.move_lists.proofs.simplify_moves.Goals as goal
use Rattle.move_lists.proofs.simplify_moves.Goals.{In_ok-check_same}

-- nothing is refused
good : (c : In_ok-check_same) → same_refusal c.args.n c.args.list.now (length c.args.out.now) ≡ 0
good c = done_number _ c.in_ok-check_same.ensures

pub returns-in_err-check_same : goal.returns-in_err-check_same
returns-in_err-check_same c = rw (passed_on _ c.from_residual.ensures.1) (answer_refused _ _ c.in_err-check_same.ensures)

pub stack-count-requires : goal.stack-count-requires
stack-count-requires c =
    let g = fitting _ _ _ (good (goal.at.stack-count-requires c).In_ok-check_same) in (g.fits, fitting_turned g)

pub slice_bounds-fill-end : goal.slice_bounds-fill-end
slice_bounds-fill-end c =
    rw c.stack-count.auto.out (fitting _ _ _ (good (goal.at.slice_bounds-fill-end c).In_ok-check_same)).fits

pub returns : goal.returns
returns c =
    simplify-done _ (good (goal.at.returns c).In_ok-check_same) c.stack-count.auto.out c.stack-count.ensures (c.fill.ensures.after (λ y e. e))
