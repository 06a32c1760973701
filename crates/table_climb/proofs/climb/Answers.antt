-- `climb`: a level after the other, all with one index.
use mathlib.Core.Path.{refl, sym, ap, subst, ◌∙◌}
use mathlib.Core.Bool.{false}
use Rattle.generic_cube.specs.Sizes.{stickers}
use Rattle.table_level.specs.declared.Stage.{Stage}
use Rattle.table_level.specs.Inner.{Tracking, outgrown_stage}
use Rattle.table_level.proofs.LevelLaws.{came, crowding, filled}
use Rattle.table_climb.proofs.StageLaws.{stand_first, stand_pause, stand_crowded, stand_over, stand_level, stand_done, swept_all, staged_placed}
use Rattle.table_climb.proofs.climb.Goals as goal

pub loop-stage-init : goal.loop-stage-init
loop-stage-init c = (stand_first c.requires.1, c.in_default.ensures)

pub returns-then-more_passes-ne0 : goal.returns-then-more_passes-ne0
returns-then-more_passes-ne0 c = stand_pause c.loop-stage.invariant.0 c.outgrown-then-more_passes-ne0.ensures

pub sweep-requires : goal.sweep-requires
sweep-requires c = let l = c.loop-stage in (l.auto.next ∙ c.requires.0, l.invariant.1, staged_placed l.invariant.0.staged)

pub returns-in-Err-Crowded : goal.returns-in-Err-Crowded
returns-in-Err-Crowded c =
    stand_crowded c.loop-stage.invariant.0 c.loop-stage-test.true (crowding c.in-Err-Crowded.field-0-is c.in-Err-Crowded.ensures).0
    (c.outgrown-in-Err-Crowded.ensures ∙ ap (outgrown_stage c.loop-stage.stage) c.in-Err-Crowded.count-is)

pub returns-in-Err-Full : goal.returns-in-Err-Full
returns-in-Err-Full c = stand_over c.loop-stage.invariant.0 c.loop-stage-test.true (filled c.in-Err-Full.field-0-is c.in-Err-Full.ensures)

pub loop-stage-preserved : goal.loop-stage-preserved
loop-stage-preserved c =
    let l = c.loop-stage in
    let g = came c.in-Ok.ensures in (
      stand_level l.invariant.0 c.loop-stage-test.true g.widened (swept_all l.stage (record { low = 0; high = 1024; plain = false }) refl refl g.done) c.next-stage.ensures,
      subst (λ (x : Stage). Tracking (stickers c.args.job.n) x.count c.sweep.new.table c.sweep.new.index (record { low = 0; high = 1024; plain = false }))
          (sym c.next-stage.ensures) g.tracking,
    )

pub returns : goal.returns
returns c = stand_done c.loop-stage.invariant.0 c.loop-stage-test.false
