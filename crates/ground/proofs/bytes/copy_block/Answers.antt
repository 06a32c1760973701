-- `copy_block`: the block follows what was copied.
use native.Mathlib.Omega.{arith}
use mathlib.Core.Path.{◌∙◌}
use Rattle.ground.proofs.CopyLaws.{copy_part}
use Rattle.ground.proofs.bytes.copy_block.Goals as goal

pub returns : goal.returns
returns c = copy_part c.requires.0 (omega arith) c.requires.1 (c.put_block.ensures ∙ c.block-b.ensures)
