-- `block`: what is passed is as in `from`.
use Prim.Native.Nat.{◌-◌}
use mathlib.Core.Path.{◌≡◌}
use lib.ListN.{length, get_or}
use Rattle.ground.proofs.FillLaws.{Filling}
use Rattle.ground.proofs.bytes.block.Given as goal

abbrev pub invariant-loop-j : goal.invariant-loop-j
invariant-loop-j l = (length l.initial.b ≡ 16) × Filling (λ k. get_or l.from k 0) l.initial.b l.b l.j

abbrev pub decreases-loop-j : goal.decreases-loop-j
decreases-loop-j l = 16 - l.j
