use mathlib.Core.Path.{◌∙◌}
use Rattle.facelet_cube.proofs.CubeLaws.{one_byte_rest, one_byte_none}
use Rattle.facelet_cube.proofs.cube.shows_one_byte.Goals as goal

pub returns-in-empty : goal.returns-in-empty
returns-in-empty c = one_byte_none c.args.face.now c.in-empty.len_below

pub returns-in-len1-up : goal.returns-in-len1-up
returns-in-len1-up c = c.eq.ensures ∙ one_byte_rest c.args.face.now c.in-len1-up.len_at_least
