-- `put_block`: what is passed is as in the block.
use Prim.Native.Nat.{◌-◌}
use lib.ListN.{get_or}
use Rattle.ground.proofs.FillLaws.{Filling}
use Rattle.ground.proofs.bytes.put_block.Given as goal

abbrev pub invariant-loop-j : goal.invariant-loop-j
invariant-loop-j l = Filling (λ k. get_or l.b k 0) l.initial.to l.to l.j

abbrev pub decreases-loop-j : goal.decreases-loop-j
decreases-loop-j l = 16 - l.j
