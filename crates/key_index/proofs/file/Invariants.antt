-- `file`: the entries passed are filed.
use Rattle.key_index.specs.InnerIndex.{Indexed}
use Rattle.key_index.proofs.file.Given as goal

abbrev pub invariant-loop-i : goal.invariant-loop-i
invariant-loop-i l = Indexed l.entries.m l.i l.entries.bytes.now l.index l.classes
