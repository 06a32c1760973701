use Rattle.algorithm_parser.proofs.RoomLaws.{repeat_none, repeat_more}
use Rattle.algorithm_parser.proofs.moves.put_copies.Goals as goal

-- `put_copies`: c - 1 copies are there.
pub loop-c-init : goal.loop-c-init
loop-c-init c = repeat_none c.requires.0 c.requires.1

pub loop-c-preserved : goal.loop-c-preserved
loop-c-preserved c = repeat_more c.requires.0 c.loop-c.invariant c.loop-c-test.true c.put_part-end.auto.out c.put_part-end.ensures
