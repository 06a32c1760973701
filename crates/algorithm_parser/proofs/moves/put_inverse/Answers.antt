use Rattle.move_lists.specs.Lists.{inverse}
use Rattle.move_lists.proofs.ListLaws.{length-inverse}
use Rattle.algorithm_parser.proofs.RoomLaws.{append_in, append_out}
use Rattle.algorithm_parser.proofs.moves.put_inverse.Goals as goal

pub returns-then-next-out : goal.returns-then-next-out
returns-then-next-out c = append_in inverse length-inverse c.requires c.plus-next.ensures c.if-next-out.true c.invert_part.auto.out c.invert_part.ensures

pub returns-else-next-out : goal.returns-else-next-out
returns-else-next-out c = append_out inverse length-inverse c.requires c.plus-next.ensures c.if-next-out.false
