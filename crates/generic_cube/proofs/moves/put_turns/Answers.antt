-- `put_turns`: the first i turns are stored.
use mathlib.Core.Path.{sym, ◌∙◌}
use Rattle.ground.specs.Lists.{up_from}
use Rattle.ground.proofs.PutLaws.{loop_none, loop_more, loop_room, length_from}
use Rattle.generic_cube.proofs.AllMovesLaws.{length_widths, turn_at_lem}
use native.Mathlib.Omega.{arith}
use Rattle.generic_cube.proofs.moves.put_turns.Goals as goal

pub loop-i-init : goal.loop-i-init
loop-i-init c = loop_none

pub put_widths-at-requires : goal.put_widths-at-requires
put_widths-at-requires c =
    let a = c.args in
    let room = loop_room a.count (λ t. length_widths (up_from a.first a.count) a.kind t ∙ length_from a.first a.count) (omega arith) c.loop-i.invariant c.loop-i-test.true in
    omega arith

pub loop-i-preserved : goal.loop-i-preserved
loop-i-preserved c =
    let l = c.loop-i in
    let h = c.loop-i-test.true in
    loop_more l.invariant h (sym (turn_at_lem l.i h)) c.put_widths-at.ensures
