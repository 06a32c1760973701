-- `fill`: no more items were put than there is room for.
use Rattle.std.proofs.Common.{◌≤◌, length}
use Rattle.stations.proofs.record.fill.Given as goal

abbrev pub invariant-loop : goal.invariant-loop
invariant-loop g l = l.len ≤ length l.out
