use native.Mathlib.Omega.{arith}
use Rattle.ground.proofs.PutLaws.{put_then, put_room}
use Rattle.scramble_writer.proofs.WriteLaws.{width_one, width_two, width_three}
use Rattle.scramble_writer.proofs.put_width.Goals as goal

pub put_digit-requires : goal.put_digit-requires
put_digit-requires c = (rw (width_one c.if-w-eq2.false c.if-w-lt10.true) at c.requires.0, omega arith)

pub returns-then-w-lt10 : goal.returns-then-w-lt10
returns-then-w-lt10 c = rw (width_one c.if-w-eq2.false c.if-w-lt10.true) c.put_digit.ensures

pub put_digit-ones-requires : goal.put_digit-ones-requires
put_digit-ones-requires c =
    let h = rw (width_two c.if-w-lt10.false c.if-w-lt100.true) at c.requires.0 in (omega arith, omega arith)

pub put_digit-requires-then-w-lt100 : goal.put_digit-requires-then-w-lt100
put_digit-requires-then-w-lt100 c =
    (put_room 1 c.put_digit-ones.ensures (rw (width_two c.if-w-lt10.false c.if-w-lt100.true) at c.requires.0), omega arith)

pub returns-then-w-lt100 : goal.returns-then-w-lt100
returns-then-w-lt100 c =
    rw (width_two c.if-w-lt10.false c.if-w-lt100.true) (put_then c.put_digit-ones.ensures c.put_digit-then-w-lt100.ensures)

pub put_digit-tens-requires : goal.put_digit-tens-requires
put_digit-tens-requires c = let h = rw (width_three c.if-w-lt100.false) at c.requires.0 in (omega arith, omega arith)

pub put_digit-ones-requires-2 : goal.put_digit-ones-requires-2
put_digit-ones-requires-2 c =
    let h = put_room 2 c.put_digit-tens.ensures (rw (width_three c.if-w-lt100.false) at c.requires.0) in (omega arith, omega arith)

pub put_digit-requires-2 : goal.put_digit-requires-2
put_digit-requires-2 c =
    let h = put_room 2 c.put_digit-tens.ensures (rw (width_three c.if-w-lt100.false) at c.requires.0) in
    (put_room 1 c.put_digit-ones-2.ensures h, omega arith)

pub returns : goal.returns
returns c =
    rw (width_three c.if-w-lt100.false) (put_then c.put_digit-tens.ensures (put_then c.put_digit-ones-2.ensures c.put_digit-2.ensures))
