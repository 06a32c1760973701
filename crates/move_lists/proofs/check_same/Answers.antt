use mathlib.Core.Path.{refl, sym, ◌∙◌}
use lib.ListN.{length}
use Rattle.ground.proofs.RefusalLaws.{passed_on}
use Rattle.generic_cube.specs.Code.{list_rows, list_refusal}
use Rattle.generic_cube.proofs.FillLaws.{fill_size, fill_list, fill_short, fill_fits}
use Rattle.move_lists.specs.Lists.{same_refusal}
use Rattle.move_lists.proofs.check_same.Goals as goal

pub returns-then-not-is_size : goal.returns-then-not-is_size
unfolding same_refusal list_refusal
returns-then-not-is_size c = let a = c.args in fill_size _ (length a.list.now) a.room (list_rows a.n a.list.now) (sym c.is_size.ensures ∙ c.if-not-is_size.true)

pub returns-in_err-check_moves : goal.returns-in_err-check_moves
unfolding same_refusal list_refusal
returns-in_err-check_moves c =
    let a = c.args in
    passed_on _ c.from_residual.ensures.1
    ∙ fill_list _ (length a.list.now) a.room (list_rows a.n a.list.now) (sym c.is_size.ensures ∙ c.if-not-is_size.false) c.in_err-check_moves.ensures

pub returns-then-room-list : goal.returns-then-room-list
unfolding same_refusal list_refusal
returns-then-room-list c =
    let a = c.args in
    fill_short _ (length a.list.now) a.room (list_rows a.n a.list.now) (sym c.is_size.ensures ∙ c.if-not-is_size.false) refl c.in_ok-check_moves.ensures c.if-room-list.true

pub returns : goal.returns
unfolding same_refusal list_refusal
returns c =
    let a = c.args in
    fill_fits _ (length a.list.now) a.room (list_rows a.n a.list.now) (sym c.is_size.ensures ∙ c.if-not-is_size.false) refl c.in_ok-check_moves.ensures c.if-room-list.false
