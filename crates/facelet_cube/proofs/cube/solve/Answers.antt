use Rattle.ground.proofs.RefusalLaws.{passed_on}
use Rattle.generic_cube.proofs.AnswerLaws.{done_number, with_refused, with_done}
use Rattle.facelet_cube.proofs.CubeLaws.{whole_slice}
use Rattle.facelet_cube.proofs.cube.solve.Goals as goal

pub returns-in_err-check_cube : goal.returns-in_err-check_cube
returns-in_err-check_cube g c = rw (passed_on _ c.from_residual.ensures.1) (with_refused _ c.in_err-check_cube.ensures)

pub put_solved-requires : goal.put_solved-requires
put_solved-requires g c = whole_slice c.args.n _ (done_number _ c.in_ok-check_cube.ensures)

pub returns : goal.returns
returns g c = with_done (done_number _ c.in_ok-check_cube.ensures) c.put_solved.ensures
