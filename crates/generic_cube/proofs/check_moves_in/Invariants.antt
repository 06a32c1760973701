-- `check_moves_in`: the walk over what is left gives what the walk over all gives.
use mathlib.Core.Path.{◌≡◌}
use lib.ListN.{drop}
use Rattle.ground.specs.Choice.{pick}
use Rattle.generic_cube.proofs.CodeLaws.{walked}
use Rattle.generic_cube.proofs.check_moves_in.Given as goal

abbrev pub invariant-loop-code : goal.invariant-loop-code
invariant-loop-code l = walked l.low l.high (pick l.has_bad_width 5 0) (drop l.code-index l.list) ≡ walked l.low l.high 0 l.list
