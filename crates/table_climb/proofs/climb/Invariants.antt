-- `climb`: a level after the other, all with one index.
use Prim.Native.Nat.{◌+◌, ◌-◌}
use Rattle.generic_cube.specs.Sizes.{stickers}
use Rattle.table_level.specs.Inner.{Tracking}
use Rattle.table_climb.proofs.StageLaws.{Standing}
use Rattle.table_climb.proofs.climb.Given as goal

abbrev pub invariant-loop-stage : goal.invariant-loop-stage
invariant-loop-stage l =
    Standing l.job.n l.job.starts.now l.job.moves.now l.job.depth l.initial.table l.fn.first.count l.table l.stage
    × Tracking (stickers l.job.n) l.stage.count l.table l.index l.all

abbrev pub decreases-loop-stage : goal.decreases-loop-stage
decreases-loop-stage l = l.job.depth + 1 - l.stage.number
