-- `copy`: what is passed is as in `from`.
use Prim.Native.Nat.{◌-◌}
use lib.ListN.{length, get_or}
use Rattle.ground.proofs.FillLaws.{Filling}
use Rattle.ground.proofs.codes.copy.Given as goal

abbrev pub invariant-loop-j : goal.invariant-loop-j
invariant-loop-j l = Filling (λ k. get_or l.from k 0) l.initial.to l.to l.j

abbrev pub decreases-loop-j : goal.decreases-loop-j
decreases-loop-j l = length l.to - l.j
