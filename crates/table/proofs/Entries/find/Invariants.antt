-- `find`: keys before low are less than the key, and it is less than those behind the span.
use Rattle.table.specs.Entries.{entry_key}
use Rattle.table.specs.Table.{entry_count}
use Rattle.table.proofs.TableLaws.{Halved}
use Rattle.table.proofs.Entries.find.Given as goal

abbrev pub invariant-loop-span : goal.invariant-loop-span
invariant-loop-span l = Halved (entry_key l.self.m l.self.bytes.now) (entry_count l.self.m l.self.bytes.now) l.key l.low l.span

abbrev pub decreases-loop-span : goal.decreases-loop-span
decreases-loop-span l = l.span
