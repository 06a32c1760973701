-- `climb_by_classes`: a level after the other.
use Prim.Native.Nat.{ℕ, ◌+◌, ◌/◌}
use mathlib.Core.Path.{ap, ◌∙◌}
use native.Mathlib.Omega.{arith}
use Rattle.generic_cube.specs.Sizes.{stickers}
use Rattle.table_climb.proofs.StageLaws.{stand_over, stand_level, stand_done, staged_placed}
use Rattle.table_climb.proofs.climb_by_classes.Goals as goal

pub level-requires : goal.level-requires
level-requires c =
    let l = c.loop-stage in (
      l.auto.next ∙ c.requires.0,
      record {
        room = l.invariant.staged.room;
        slots = omega arith;
        size_few = omega arith;
        width_most = c.guess-width.ensures.0;
        few = λ f. omega (arith, c.guess-width.ensures.1 f, ap (λ (k : ℕ). k / (stickers c.args.job.n + 1)) l.auto.table);
      },
      staged_placed l.invariant.staged,
    )

pub returns-in_err-count : goal.returns-in_err-count
returns-in_err-count c = rw c.from_residual.ensures (stand_over c.loop-stage.invariant c.loop-stage-test.true c.in_err-count.ensures)

pub loop-stage-preserved : goal.loop-stage-preserved
loop-stage-preserved c =
    let g = c.in_ok-count.ensures in stand_level c.loop-stage.invariant c.loop-stage-test.true g.0 g.1 c.next-stage.ensures

pub returns : goal.returns
returns c = stand_done c.loop-stage.invariant c.loop-stage-test.false
