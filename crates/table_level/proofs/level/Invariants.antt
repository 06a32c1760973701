-- `level`: some classes after the others; where a run was full, fewer of them.
use Prim.Native.Nat.{◌+◌, ◌-◌, ◌*◌, ◌≤◌, ◌<◌}
use mathlib.Core.Path.{◌≡◌}
use Rattle.generic_cube.specs.Sizes.{stickers}
use Rattle.table.specs.Table.{entry_count}
use Rattle.key_index.specs.InnerIndex.{classes}
use Rattle.table_level.proofs.LevelLaws.{Climbed}
use Rattle.table_level.proofs.level.Given as goal

abbrev pub invariant-loop-low : goal.invariant-loop-low
invariant-loop-low l =
    (l.low ≤ classes)
    × (l.width ≤ classes)
    × ((l.width ≡ 0 → ⊥) → entry_count (stickers l.job.n) l.initial.table < 4294967295)
    × Climbed l.job.n l.job.starts.now l.job.moves.now l.stage l.initial.table l.table l.count l.low

abbrev pub decreases-loop-low : goal.decreases-loop-low
decreases-loop-low l = 2048 * (classes - l.low) + l.width
