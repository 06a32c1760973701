-- `probe`: the slots passed are taken, by other keys.
use Rattle.key_index.specs.Inner.{Passed}
use Rattle.key_index.proofs.IndexLaws.{Full}
use Rattle.key_index.proofs.probe.Given as goal

abbrev pub invariant-loop-p : goal.invariant-loop-p
invariant-loop-p l = Full l.index l.at l.p × Passed l.entries.m l.entries.bytes.now l.key l.index l.at l.p
