-- `apply_moves`: refused as a whole, or every move done and the work area cleared.
use lib.ListN.{length}
use Rattle.ground.proofs.RefusalLaws.{passed_on}
use Rattle.generic_cube.proofs.AnswerLaws.{done_number}
use Rattle.facelet_cube.proofs.ApplyLaws.{runnable, runnable_cube}
use Rattle.facelet_moves.proofs.MoveLaws.{numbers_refused, numbers_done}
use Rattle.facelet_moves.proofs.apply_moves.Goals as goal

pub returns-in_err-check_apply : goal.returns-in_err-check_apply
returns-in_err-check_apply g c =
    let a = c.args in
    rw (passed_on _ c.from_residual.ensures.1)
    (numbers_refused g.met.T.Facelet.laws a.n a.cube.now a.work.now a.moves.now c.in_err-check_apply.ensures)

pub run_moves-requires : goal.run_moves-requires
run_moves-requires g c =
    let a = c.args in runnable_cube (runnable a.n _ (length a.work.now) a.moves.now (done_number _ c.in_ok-check_apply.ensures))

pub fill-requires : goal.fill-requires
fill-requires g c = (g.met.T.Facelet.clones _).0

pub returns : goal.returns
returns g c =
    let a = c.args in
    numbers_done g.met.T.Facelet.laws a.n a.cube.now a.work.now a.moves.now (done_number _ c.in_ok-check_apply.ensures)
    c.run_moves.ensures (c.fill.ensures.after (g.met.T.Facelet.clones _).1) c.blank.ensures
