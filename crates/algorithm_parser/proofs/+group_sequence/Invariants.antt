use Prim.Native.Nat.{◌+◌, ◌-◌, ◌*◌}
use lib.ListN.{length}
use Rattle.algorithm_parser.proofs.CycleLaws.{Going}
use Rattle.algorithm_parser.proofs.+group_sequence.Given as goal

abbrev pub invariant-sequence-loop-word : goal.invariant-sequence-loop-word
invariant-sequence-loop-word l = Going l.source.n l.source.text.now l.left l.i l.source.cap l.initial.out l.j l.out l.read.end l.read.next

abbrev pub decreases-sequence-loop-word : goal.decreases-sequence-loop-word
decreases-sequence-loop-word l = length l.source.text.now - l.read.end

-- the bytes that are left; a sequence goes before the group that stands where it begins
abbrev pub decreases-group : goal.decreases-group
decreases-group l = 2 * (length l.source.text.now - l.s)

abbrev pub decreases-sequence : goal.decreases-sequence
decreases-sequence l = 2 * (length l.source.text.now - l.i) + 1
