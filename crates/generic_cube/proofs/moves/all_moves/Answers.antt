-- `all_moves`: faces, then wide kinds, where nothing is refused.
use mathlib.Core.Path.{◌≡◌, refl}
use native.Mathlib.Omega.{arith}
use lib.ListN.{length}
use Rattle.ground.specs.Choice.{any}
use Rattle.ground.specs.Lists.{up_from}
use Rattle.ground.proofs.RefusalLaws.{passed_on}
use Rattle.generic_cube.specs.AllMoves.{all_refusal}
use Rattle.generic_cube.proofs.AllMovesLaws.{kinds_fair, faces_next, all_room, all_stored}
use Rattle.generic_cube.proofs.AnswerLaws.{done_number, answer_refused}
use Rattle.generic_cube.proofs.moves.all_moves.Goals as goal
use Rattle.generic_cube.proofs.moves.all_moves.Goals.{In_ok-check_all}

-- nothing is refused
good : (c : In_ok-check_all) → all_refusal c.args.n (length c.args.out.now) ≡ 0
good c = done_number _ c.in_ok-check_all.ensures

pub returns-in_err-check_all : goal.returns-in_err-check_all
returns-in_err-check_all c = rw (passed_on _ c.from_residual.ensures.1) (answer_refused _ _ c.in_err-check_all.ensures)

pub put_kinds-faces-requires : goal.put_kinds-faces-requires
unfolding any
put_kinds-faces-requires c =
    let r = all_room _ _ (good (goal.at.put_kinds-faces-requires c).In_ok-check_all) in
    (omega arith, omega arith, kinds_fair _ refl refl)

pub put_kinds-requires : goal.put_kinds-requires
unfolding up_from any
put_kinds-requires c =
    let k = c.put_kinds-faces in
    let r = all_room _ _ (good (goal.at.put_kinds-requires c).In_ok-check_all) in
    let e = faces_next k.ensures in
    (omega (arith, k.auto.out), omega arith, kinds_fair _ refl refl)

pub returns : goal.returns
unfolding up_from
returns c =
    all_stored _ (good (goal.at.returns c).In_ok-check_all)
    c.put_kinds-faces.ensures c.put_kinds.ensures
