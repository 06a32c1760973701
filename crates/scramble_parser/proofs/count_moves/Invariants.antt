-- `count_moves`: what was counted, with what is left to read, is the whole.
use Prim.Native.Nat.{◌-◌}
use lib.ListN.{length}
use Rattle.scramble_parser.proofs.ParseLaws.{Counted}
use Rattle.scramble_parser.proofs.count_moves.Given as goal

abbrev pub invariant-loop-word : goal.invariant-loop-word
invariant-loop-word l = Counted l.n l.text l.i l.count

abbrev pub decreases-loop-word : goal.decreases-loop-word
decreases-loop-word l = length l.text - l.i
