-- `put_widths`: the first i widths are stored.
use Prim.Native.Nat.{◌+◌, ◌≤◌}
use mathlib.Core.Path.{refl, sym}
use lib.ListN.{length}
use Rattle.ground.proofs.PutLaws.{loop_none, loop_more, loop_all, loop_room, put_one, put_length, length_from, get_d_from}
use native.Mathlib.Omega.{arith}
use Rattle.generic_cube.proofs.moves.put_widths.Goals as goal
use Rattle.generic_cube.proofs.moves.put_widths.Goals.{In-loop-i}

-- the place of the next width is within the output
room : (c : In-loop-i) → c.loop-i.at + 1 ≤ length c.loop-i.out
room c =
    let a = c.args in
    let l = length_from a.first a.count in
    loop_room 1 (λ w. refl) (omega arith) c.loop-i.invariant (omega arith)

pub loop-i-init : goal.loop-i-init
loop-i-init c = loop_none

pub offset_bounds-out-at : goal.offset_bounds-out-at
offset_bounds-out-at c =
    omega (arith, (room (goal.at.offset_bounds-out-at c).In-loop-i), put_length c.loop-i.invariant.put)

pub bounds-out-at : goal.bounds-out-at
bounds-out-at c =
    omega (arith, (room (goal.at.bounds-out-at c).In-loop-i), put_length c.loop-i.invariant.put)

pub overflow_add-at : goal.overflow_add-at
overflow_add-at c =
    omega (arith, (room (goal.at.overflow_add-at c).In-loop-i), put_length c.loop-i.invariant.put)

pub loop-i-preserved : goal.loop-i-preserved
loop-i-preserved c =
    let a = c.args in
    let i = c.loop-i.i in
    let l = length_from a.first a.count in
    loop_more c.loop-i.invariant (omega arith) (sym (get_d_from a.first a.count i c.loop-i-test.true)) (put_one c.code_of.ensures)

pub returns : goal.returns
returns c = loop_all c.loop-i.invariant (rw length_from c.loop-i-test.false)
