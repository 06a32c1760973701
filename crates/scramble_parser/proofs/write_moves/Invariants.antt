-- `write_moves`: what is stored, with what is left to read, is the whole.
use Rattle.scramble_parser.proofs.ParseLaws.{Stored}
use Rattle.scramble_parser.proofs.write_moves.Given as goal

abbrev pub invariant-loop-slot : goal.invariant-loop-slot
invariant-loop-slot l = Stored l.n l.text l.initial.out l.out l.i l.slot-index
