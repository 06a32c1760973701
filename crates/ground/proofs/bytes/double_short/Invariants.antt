-- `double_short`: the first j bytes of the second half are those of the first.
use Prim.Native.Nat.{◌-◌}
use Rattle.ground.specs.Inner.{Doubling}
use Rattle.ground.proofs.bytes.double_short.Given as goal

abbrev pub invariant-loop-j : goal.invariant-loop-j
invariant-loop-j l = Doubling l.s l.initial.to l.to l.j

abbrev pub decreases-loop-j : goal.decreases-loop-j
decreases-loop-j l = l.s - l.j
