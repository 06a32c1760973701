use Prim.Native.Nat.{◌-◌, ◌%◌}
use mathlib.Core.Path.{◌≡◌, ◌∙◌}
use native.Mathlib.Omega.{arith}
use Rattle.generic_cube.specs.Code.{move_of, turned_to}
use Rattle.generic_cube.proofs.CodeLaws.{turn_most}
use Rattle.move_lists.specs.Lists.{inverse_of}
use Rattle.move_lists.proofs.inverse_code.Goals as goal

pub overflow_sub-turn_of : goal.overflow_sub-turn_of
overflow_sub-turn_of c = omega (arith, turn_most c.args.code, c.turn_of.ensures)

pub returns : goal.returns
unfolding inverse_of turned_to
returns c some =
    let m = turn_most c.args.code in
    let t = c.turn_of.ensures in
    let z : (4 - c.turn_of.result) % 4 ≡ 4 - (move_of c.args.code).turn = omega arith in
    c.with_turn.ensures ∙ rw z
