use Prim.Native.Nat.{◌-◌}
use lib.ListN.{length}
use Rattle.tokens.proofs.WordLaws.{Skipping}
use Rattle.tokens.proofs.words.skip.Given as goal

abbrev pub invariant-loop-j : goal.invariant-loop-j
invariant-loop-j l = Skipping l.text l.i l.j

abbrev pub decreases-loop-j : goal.decreases-loop-j
decreases-loop-j l = length l.text - l.j
