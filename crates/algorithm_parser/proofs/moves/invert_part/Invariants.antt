use lib.ListN.{take, drop}
use Rattle.move_lists.specs.Lists.{inverse}
use Rattle.algorithm_parser.proofs.RoomLaws.{Moving}
use Rattle.algorithm_parser.proofs.moves.invert_part.Given as goal

abbrev pub invariant-loop-k : goal.invariant-loop-k
invariant-loop-k l = Moving (take l.size (drop l.j l.initial.out)) (inverse (take l.size (drop l.j l.initial.out))) l.initial.out l.to l.out l.k
