-- `free`: the slots passed are taken.
use Rattle.key_index.proofs.IndexLaws.{Full}
use Rattle.key_index.proofs.free.Given as goal

abbrev pub invariant-loop-p : goal.invariant-loop-p
invariant-loop-p l = Full l.index l.at l.p
