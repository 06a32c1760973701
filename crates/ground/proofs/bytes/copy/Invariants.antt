-- `copy`: the first bytes are as in `from`.
use Prim.Native.Nat.{◌+◌, ◌-◌}
use mathlib.Core.Path.{◌≡◌}
use lib.ListN.{length}
use Rattle.ground.specs.Inner.{Copying}
use Rattle.ground.proofs.bytes.copy.Given as goal

abbrev pub invariant-loop-j : goal.invariant-loop-j
invariant-loop-j l = (l.last + 16 ≡ length l.from) × Copying l.from l.to l.j

abbrev pub decreases-loop-j : goal.decreases-loop-j
decreases-loop-j l = l.last - l.j
