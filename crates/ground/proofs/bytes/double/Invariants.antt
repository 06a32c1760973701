-- `double`: what is passed of the second half is as in the first.
use Prim.Native.Nat.{◌-◌}
use Rattle.ground.specs.Inner.{Doubling}
use Rattle.ground.proofs.bytes.double.Given as goal

abbrev pub invariant-loop-at : goal.invariant-loop-at
invariant-loop-at l = Doubling l.s l.initial.to l.to l.at

abbrev pub decreases-loop-at : goal.decreases-loop-at
decreases-loop-at l = l.s - l.at
