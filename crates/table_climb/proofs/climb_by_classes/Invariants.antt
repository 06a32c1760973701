-- `climb_by_classes`: a level after the other.
use Prim.Native.Nat.{◌+◌, ◌-◌}
use Rattle.table_climb.proofs.StageLaws.{Standing}
use Rattle.table_climb.proofs.climb_by_classes.Given as goal

abbrev pub invariant-loop-stage : goal.invariant-loop-stage
invariant-loop-stage l = Standing l.job.n l.job.starts.now l.job.moves.now l.job.depth l.initial.table l.fn.first.count l.table l.stage

abbrev pub decreases-loop-stage : goal.decreases-loop-stage
decreases-loop-stage l = l.job.depth + 1 - l.stage.number
