use native.Mathlib.Omega.{arith}
use Rattle.generic_cube.proofs.WidthLaws.{widths, widths_tell}
use Rattle.generic_cube.proofs.is_bad_code.Goals as goal

pub returns : goal.returns
unfolding widths
returns c = widths_tell c.args.code (omega (arith, c.ranges.code.fits))
