-- `put_kinds`: the first i kinds are stored.
use Prim.Native.Nat.{◌*◌}
use mathlib.Core.Path.{refl, ap, ◌∙◌}
use Rattle.ground.specs.Lists.{up_from}
use Rattle.generic_cube.specs.AllMoves.{moves_of}
use Rattle.ground.proofs.PutLaws.{loop_none, loop_more, loop_all, loop_room, length_from}
use Rattle.generic_cube.proofs.AllMovesLaws.{length_turns}
use native.Mathlib.Omega.{arith}
use Rattle.generic_cube.proofs.moves.put_kinds.Goals as goal

pub loop-kind-init : goal.loop-kind-init
loop-kind-init c = loop_none

pub put_turns-at-requires : goal.put_turns-at-requires
put_turns-at-requires c =
    let a = c.args in
    let p = c.requires in
    let l = c.loop-kind in
    let w = length_from a.first a.count in
    let six = p.2.six in
    let room = loop_room (3 * a.count) (λ k. length_turns (up_from a.first a.count) k ∙ ap (λ x. 3 * x) w) (rw six (omega arith)) l.invariant c.loop-kind-test.true in
    (room, p.1, p.2.small l.kind-index)

pub loop-kind-preserved : goal.loop-kind-preserved
loop-kind-preserved c =
    let l = c.loop-kind in
    loop_more l.invariant c.loop-kind-test.true refl c.put_turns-at.ensures

pub returns : goal.returns
unfolding moves_of
returns c = loop_all c.loop-kind.invariant c.loop-kind-test.false
