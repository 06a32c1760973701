-- `double_block`: the block follows what was copied of the first half.
use Prim.Native.Nat.{◌+◌, ◌-◌}
use mathlib.Core.Path.{◌≡◌, ◌∙◌}
use native.Mathlib.Omega.{arith}
use Rattle.ground.proofs.CopyLaws.{double_part}
use Rattle.ground.proofs.bytes.double_block.Goals as goal

pub returns : goal.returns
returns c =
    let e : c.args.at + 16 - c.args.at ≡ 16 = omega arith in
    let d : c.args.s + (c.args.at + 16) - (c.args.s + c.args.at) ≡ 16 = omega arith in
    double_part 16 c.requires.0 c.requires.1 e d (c.put_block.ensures ∙ c.block-b.ensures)
