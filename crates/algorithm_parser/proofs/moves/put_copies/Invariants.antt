use Rattle.algorithm_parser.proofs.RoomLaws.{Repeating}
use Rattle.algorithm_parser.proofs.moves.put_copies.Given as goal

abbrev pub invariant-loop-c : goal.invariant-loop-c
invariant-loop-c l = Repeating l.cap l.initial.out l.j l.mid l.times l.out l.end l._c
