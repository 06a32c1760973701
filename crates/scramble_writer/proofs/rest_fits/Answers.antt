-- `rest_fits`: what is left of the room behind the first i tokens.
use mathlib.Core.Path.{sym}
use Rattle.scramble_writer.proofs.WriteLaws.{left_none, left_more, left_short}
use Rattle.scramble_writer.proofs.rest_fits.Goals as goal

pub loop-code-init : goal.loop-code-init
loop-code-init c = left_none

pub returns-then-left-need : goal.returns-then-left-need
returns-then-left-need c = sym (left_short c.loop-code.invariant c.loop-code-test.true (rw c.code_len-need.ensures.0 at c.if-left-need.true))

pub loop-code-preserved : goal.loop-code-preserved
loop-code-preserved c =
    rw c.code_len-need.ensures.0
    (left_more c.loop-code.invariant c.loop-code-test.true (rw c.code_len-need.ensures.0 at c.if-left-need.false))
