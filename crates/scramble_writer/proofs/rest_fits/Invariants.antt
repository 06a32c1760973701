-- `rest_fits`: what is left of the room behind the first i tokens.
use Rattle.scramble_writer.proofs.WriteLaws.{Left}
use Rattle.scramble_writer.proofs.rest_fits.Given as goal

abbrev pub invariant-loop-code : goal.invariant-loop-code
invariant-loop-code l = Left l.list l.room l.left l.code-index
