-- `check_mask`: the cube, the ids, the keep slice, then the ids themselves.
use mathlib.Core.Path.{sym, ap, ◌∙◌}
use lib.ListN.{length}
use Rattle.ground.proofs.RefusalLaws.{passed_on}
use Rattle.ground.specs.Choice.{pick}
use Rattle.generic_cube.specs.Answers.{done}
use Rattle.generic_cube.proofs.AnswerLaws.{done_number}
use Rattle.facelet_cube.specs.Inner.{Whole}
use Rattle.facelet_cube.proofs.CubeLaws.{whole_slice, mask_cube, mask_ids, mask_keep, mask_index}
use Rattle.facelet_cube.proofs.cube.check_mask.Goals as goal
use Rattle.facelet_cube.proofs.cube.check_mask.Goals.{In_ok-check_cube, In_ok-check_cube-2}

cube_long : (c : In_ok-check_cube) → Whole c.args.n c.args.cube
cube_long c = whole_slice _ _ (done_number _ c.in_ok-check_cube.ensures)

ids_long : (c : In_ok-check_cube-2) → Whole c.args.n (length c.args.ids.now)
ids_long c = whole_slice _ _ (done_number _ c.in_ok-check_cube-2.ensures)

pub returns-in_err-check_cube : goal.returns-in_err-check_cube
returns-in_err-check_cube c =
    let a = c.args in passed_on _ c.from_residual.ensures.1 ∙ mask_cube a.n a.cube a.ids.now a.keep c.in_err-check_cube.ensures

pub returns-in_err-check_cube-2 : goal.returns-in_err-check_cube-2
returns-in_err-check_cube-2 c =
    let a = c.args in
    passed_on _ c.from_residual-in_err-check_cube-2.ensures.1
    ∙ mask_ids a.n a.cube a.ids.now a.keep (cube_long (goal.at.returns-in_err-check_cube-2 c).In_ok-check_cube) c.in_err-check_cube-2.ensures

pub returns-in_err-check_cube-3 : goal.returns-in_err-check_cube-3
returns-in_err-check_cube-3 c =
    let a = c.args in
    let k = goal.at.returns-in_err-check_cube-3 c in
    passed_on _ c.from_residual-in_err-check_cube-3.ensures.1
    ∙ mask_keep a.n a.cube a.ids.now a.keep (cube_long k.In_ok-check_cube) (ids_long k.In_ok-check_cube-2) c.in_err-check_cube-3.ensures

pub returns-then-has_large_id : goal.returns-then-has_large_id
returns-then-has_large_id c =
    let a = c.args in
    let k = goal.at.returns-then-has_large_id c in
    ap done (ap (λ t. pick t 10 0) (sym c.if-has_large_id.true)
    ∙ sym (mask_index a.n a.cube a.ids.now a.keep (cube_long k.In_ok-check_cube) (ids_long k.In_ok-check_cube-2) (whole_slice _ _ (done_number _ c.in_ok-check_cube-3.ensures)) c.has_large_id.ensures))

pub returns : goal.returns
returns c =
    let a = c.args in
    let k = goal.at.returns c in
    ap done (ap (λ t. pick t 10 0) (sym c.if-has_large_id.false)
    ∙ sym (mask_index a.n a.cube a.ids.now a.keep (cube_long k.In_ok-check_cube) (ids_long k.In_ok-check_cube-2) (whole_slice _ _ (done_number _ c.in_ok-check_cube-3.ensures)) c.has_large_id.ensures))
