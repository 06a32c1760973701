use native.Mathlib.Omega.{arith}
use Rattle.ground.proofs.PutLaws.{put_room}
use Prim.Native.Nat.{◌+◌, ◌≤◌}
use mathlib.Core.Path.{◌≡◌, ◌∙◌}
use mathlib.Core.Bool.{true, false}
use lib.ListN.{length}
use Rattle.generic_cube.specs.Code.{is_wide}
use Rattle.scramble_writer.specs.Write.{mark_text, width_text}
use mathlib.Core.Path.{sym}
use Rattle.scramble_writer.proofs.WriteLaws.{wide_length, plain_length, put_wide, put_plain}
use Rattle.scramble_writer.proofs.put_token.Goals as goal
use Rattle.scramble_writer.proofs.put_token.Goals.{After-put_byte-b, Else-is_wide, Then-is_wide}

wide : (c : Then-is_wide) → is_wide c.args.m.kind ≡ true
wide c =
    sym c.is_wide.ensures ∙ c.if-is_wide.true

plain : (c : Else-is_wide) → is_wide c.args.m.kind ≡ false
plain c =
    sym c.is_wide.ensures ∙ c.if-is_wide.false

room : (c : Then-is_wide) → let a = c.args in a.at + (length (width_text a.m.width) + (2 + length (mark_text a.m.turn))) ≤ length a.out.now
room c =
    rw (wide_length c.args.m (wide c)) at c.requires.room

behind : (c : After-put_byte-b) → c.put_byte-b.result + (1 + length (mark_text c.args.m.turn)) ≤ length c.put_byte-b.new.out
behind c =
    let wide : is_wide c.args.m.kind ≡ true = sym c.is_wide.ensures ∙ c.if-is_wide.true in
    let room : let a = c.args in a.at + (length (width_text a.m.width) + (2 + length (mark_text a.m.turn))) ≤ length a.out.now = rw (wide_length c.args.m wide) at c.requires.room in
    let m = length (mark_text c.args.m.turn) in
    let q = put_room _ c.put_width-a.ensures room in
    let h : c.put_width-a.result + (1 + (1 + m)) ≤ length c.put_width-a.new.out = omega arith in
    put_room (1 + m) c.put_byte-b.ensures h

pub put_width-a-requires : goal.put_width-a-requires
put_width-a-requires c =
    let h = (room (goal.at.put_width-a-requires c).Then-is_wide) in (omega arith, c.requires.width)

pub put_byte-b-requires : goal.put_byte-b-requires
put_byte-b-requires c =
    let h = put_room _ c.put_width-a.ensures (room (goal.at.put_byte-b-requires c).Then-is_wide) in omega arith

pub put_byte-c-requires : goal.put_byte-c-requires
put_byte-c-requires c =
    let h = (behind (goal.at.put_byte-c-requires c).After-put_byte-b) in omega arith

pub put_mark-requires : goal.put_mark-requires
put_mark-requires c =
    put_room _ c.put_byte-c.ensures (behind (goal.at.put_mark-requires c).After-put_byte-b)

pub returns-then-is_wide : goal.returns-then-is_wide
returns-then-is_wide c =
    put_wide _ (wide (goal.at.returns-then-is_wide c).Then-is_wide) c.put_width-a.ensures (rw c.kind_byte-letter.ensures at c.put_byte-b.ensures) c.put_byte-c.ensures c.put_mark.ensures

pub put_byte-a-requires : goal.put_byte-a-requires
put_byte-a-requires c =
    let h = rw (plain_length c.args.m (plain (goal.at.put_byte-a-requires c).Else-is_wide)) at c.requires.room in omega arith

pub put_mark-requires-2 : goal.put_mark-requires-2
put_mark-requires-2 c =
    put_room _ c.put_byte-a.ensures (rw (plain_length c.args.m (plain (goal.at.put_mark-requires-2 c).Else-is_wide)) at c.requires.room)

pub returns : goal.returns
returns c =
    put_plain _ (plain (goal.at.returns c).Else-is_wide) (rw c.kind_byte-letter.ensures at c.put_byte-a.ensures) c.put_mark-2.ensures
