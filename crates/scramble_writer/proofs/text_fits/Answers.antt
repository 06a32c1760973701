use mathlib.Core.Path.{sym, ◌∙◌}
use borrow.Author.Tests.{lt-leb}
use Rattle.scramble_writer.proofs.WriteLaws.{fits_empty, fits_short, fits_rest}
use Rattle.scramble_writer.proofs.text_fits.Goals as goal

pub returns-in_default : goal.returns-in_default
returns-in_default c = sym (fits_empty _ _ c.in_default.ensures.cases)

pub returns-then-need-room : goal.returns-then-need-room
returns-then-need-room c =
    c.rest_fits.ensures ∙ rw c.code_len-need.ensures.0 (fits_rest c.in-Some.ensures.cases.0 _ (rw c.code_len-need.ensures.0 at c.if-need-room.true))

pub returns-else-need-room : goal.returns-else-need-room
returns-else-need-room c =
    lt-leb _ _ c.if-need-room.false ∙ sym (fits_short c.in-Some.ensures.cases.0 _ (rw c.code_len-need.ensures.0 at c.if-need-room.false))
