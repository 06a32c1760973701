use Prim.Native.Nat.{◌-◌}
use lib.ListN.{length}
use mathlib.Core.Path.{refl, sym, ◌∙◌}
use borrow.Author.Tests.{leb-true, leb-false}
use Rattle.ground.proofs.RefusalLaws.{passed_on}
use Rattle.generic_cube.proofs.CodeLaws.{sized_bounds}
use Rattle.generic_cube.specs.Code.{rows_in, refusal_in}
use Rattle.generic_cube.proofs.FillLaws.{fill_size, fill_list, fill_short, fill_fits}
use Rattle.scramble_writer.specs.Write.{list_text, write_refusal}
use Rattle.scramble_writer.proofs.check_write.Goals as goal

pub returns-then-not-is_size : goal.returns-then-not-is_size
unfolding write_refusal refusal_in
returns-then-not-is_size c =
    let a = c.args in fill_size _ (length (list_text a.list.now)) a.room (rows_in 2 (a.n - 1) a.list.now) (sym c.is_size.ensures ∙ c.if-not-is_size.true)

pub overflow_sub-n : goal.overflow_sub-n
overflow_sub-n c = (sized_bounds _ (sym c.is_size.ensures ∙ c.if-not-is_size.false)).0

pub returns-in_err-check_moves_in : goal.returns-in_err-check_moves_in
unfolding write_refusal refusal_in
returns-in_err-check_moves_in c =
    let a = c.args in
    passed_on _ c.from_residual.ensures.1
    ∙ fill_list _ (length (list_text a.list.now)) a.room (rows_in 2 (a.n - 1) a.list.now) (sym c.is_size.ensures ∙ c.if-not-is_size.false) c.in_err-check_moves_in.ensures

pub returns-then-not-text_fits : goal.returns-then-not-text_fits
unfolding write_refusal refusal_in
returns-then-not-text_fits c =
    let a = c.args in
    fill_short _ (length (list_text a.list.now)) a.room (rows_in 2 (a.n - 1) a.list.now) (sym c.is_size.ensures ∙ c.if-not-is_size.false) refl c.in_ok-check_moves_in.ensures
    (leb-false _ _ (sym c.text_fits.ensures ∙ c.if-not-text_fits.true))

pub returns : goal.returns
unfolding write_refusal refusal_in
returns c =
    let a = c.args in
    fill_fits _ (length (list_text a.list.now)) a.room (rows_in 2 (a.n - 1) a.list.now) (sym c.is_size.ensures ∙ c.if-not-is_size.false) refl c.in_ok-check_moves_in.ensures
    (leb-true _ _ (sym c.text_fits.ensures ∙ c.if-not-text_fits.false))
