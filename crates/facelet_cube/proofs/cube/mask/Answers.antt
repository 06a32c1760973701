use Rattle.ground.proofs.RefusalLaws.{passed_on}
use Rattle.generic_cube.proofs.AnswerLaws.{done_number, with_refused, with_done}
use Rattle.facelet_cube.proofs.CubeLaws.{masks}
use Rattle.facelet_cube.proofs.cube.mask.Goals as goal

pub returns-in_err-check_mask : goal.returns-in_err-check_mask
returns-in_err-check_mask c = rw (passed_on _ c.from_residual.ensures.1) (with_refused _ c.in_err-check_mask.ensures)

pub put_mask-requires : goal.put_mask-requires
put_mask-requires c = let a = c.args in masks a.n _ a.ids.now _ (done_number _ c.in_ok-check_mask.ensures)

pub returns : goal.returns
returns c = with_done (done_number _ c.in_ok-check_mask.ensures) c.put_mask.ensures
