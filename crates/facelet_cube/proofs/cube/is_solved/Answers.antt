use mathlib.Core.Path.{◌∙◌}
use Rattle.ground.proofs.RefusalLaws.{passed_on}
use Rattle.generic_cube.proofs.AnswerLaws.{done_number, err_answer}
use Rattle.facelet_cube.specs.Cube.{is_solved, verdict}
use Rattle.facelet_cube.proofs.CubeLaws.{whole_slice}
use Rattle.facelet_cube.proofs.cube.is_solved.Goals as goal

pub returns-in_err-check_cube : goal.returns-in_err-check_cube
unfolding verdict
returns-in_err-check_cube c = passed_on _ c.from_residual.ensures.1 ∙ err_answer _ (is_solved c.args.n c.args.cube.now) c.in_err-check_cube.ensures

pub all_faces_solved-requires : goal.all_faces_solved-requires
all_faces_solved-requires c = whole_slice c.args.n _ (done_number _ c.in_ok-check_cube.ensures)

pub returns : goal.returns
unfolding verdict
returns c = rw (done_number _ c.in_ok-check_cube.ensures, c.all_faces_solved.ensures)
