-- `path_bars`: the last move made is the one in the last slot.
use mathlib.Core.Path.{sym, ◌∙◌}
use native.Mathlib.Omega.{arith}
use Rattle.generic_cube.specs.Code.{joins}
use Rattle.ida_star.proofs.VisitLaws.{barred_none, barred_last}
use Rattle.ida_star.proofs.path_bars.Goals as goal

pub returns-in-empty : goal.returns-in-empty
returns-in-empty c = sym (barred_none joins _ _ (omega arith))

pub returns-in-len1-up : goal.returns-in-len1-up
returns-in-len1-up c = c.do_join.ensures ∙ sym (barred_last joins _ _ (λ e. omega arith))
