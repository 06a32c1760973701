-- `check_apply`: the cube, then the work area, then the list.
use mathlib.Core.Path.{sym, ap, ◌∙◌}
use Rattle.ground.proofs.RefusalLaws.{passed_on}
use Rattle.generic_cube.specs.Answers.{done}
use Rattle.generic_cube.proofs.AnswerLaws.{done_number}
use Rattle.facelet_cube.specs.Inner.{Whole}
use Rattle.facelet_cube.proofs.CubeLaws.{whole_slice}
use Rattle.facelet_cube.proofs.ApplyLaws.{apply_cube, apply_work, apply_moves_rows}
use Rattle.facelet_cube.proofs.check_apply.Goals as goal
use Rattle.facelet_cube.proofs.check_apply.Goals.{In_ok-check_cube}

cube_long : (c : In_ok-check_cube) → Whole c.args.n c.args.cube
cube_long c = whole_slice _ _ (done_number _ c.in_ok-check_cube.ensures)

pub returns-in_err-check_cube : goal.returns-in_err-check_cube
returns-in_err-check_cube c = let a = c.args in passed_on _ c.from_residual.ensures.1 ∙ apply_cube a.n a.cube a.work a.moves.now c.in_err-check_cube.ensures

pub returns-in_err-check_cube-2 : goal.returns-in_err-check_cube-2
returns-in_err-check_cube-2 c =
    let a = c.args in
    passed_on _ c.from_residual-in_err-check_cube-2.ensures.1
    ∙ apply_work a.n a.cube a.work a.moves.now (cube_long (goal.at.returns-in_err-check_cube-2 c).In_ok-check_cube) c.in_err-check_cube-2.ensures

pub returns : goal.returns
returns c =
    let a = c.args in
    c.check_moves.ensures
    ∙ ap done (sym (apply_moves_rows a.n a.cube a.work a.moves.now (cube_long (goal.at.returns c).In_ok-check_cube) (whole_slice _ _ (done_number _ c.in_ok-check_cube-2.ensures))))
