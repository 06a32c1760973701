-- `put_rest`: the first i tokens are stored, each behind a space.
use Prim.Native.Nat.{◌+◌, ◌≤◌}
use mathlib.Core.Path.{refl}
use lib.ListN.{length, get_or}
use Rattle.ground.proofs.PutLaws.{loop_none, loop_more, loop_all, loop_fits, put_then, put_room}
use Rattle.scramble_writer.specs.Write.{text_of, rest_text}
use native.Mathlib.Omega.{arith}
use Rattle.scramble_writer.proofs.put_rest.Goals as goal
use Rattle.scramble_writer.proofs.put_rest.Goals.{In-loop-code}

-- there is room for the next token and the space before it
room : (c : In-loop-code) → c.loop-code.at + (1 + length (text_of (get_or c.args.list.now c.loop-code.code-index 0))) ≤ length c.loop-code.out
unfolding rest_text
room c =
    let h = loop_fits c.requires c.loop-code.invariant c.loop-code-test.true in omega arith

pub loop-code-init : goal.loop-code-init
loop-code-init c = loop_none

pub put_byte-token-requires : goal.put_byte-token-requires
put_byte-token-requires c =
    let h = (room (goal.at.put_byte-token-requires c).In-loop-code) in omega arith

pub put_code-at-requires : goal.put_code-at-requires
put_code-at-requires c =
    put_room _ c.put_byte-token.ensures (room (goal.at.put_code-at-requires c).In-loop-code)

pub loop-code-preserved : goal.loop-code-preserved
loop-code-preserved c =
    loop_more c.loop-code.invariant c.loop-code-test.true refl (put_then c.put_byte-token.ensures c.put_code-at.ensures)

pub returns : goal.returns
unfolding rest_text
returns c = loop_all c.loop-code.invariant c.loop-code-test.false
