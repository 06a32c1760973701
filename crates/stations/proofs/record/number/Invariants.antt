use Rattle.std.proofs.Common.{◌<◌}
use Rattle.stations.proofs.record.number.Given as goal

abbrev pub invariant-loop-b : goal.invariant-loop-b
invariant-loop-b l = l.x < 1048576
