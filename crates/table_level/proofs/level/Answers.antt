-- `level`: some classes after the others; where a run was full, fewer of them.
use Prim.Native.Nat.{ℕ}
use mathlib.Core.Path.{sym, subst}
use native.Mathlib.Omega.{arith}
use Rattle.table_level.proofs.LevelLaws.{Climbed, came, crowding, filled, pass_told, climb_more, climb_crowded, levelled_to, levelled_over}
use Rattle.table_level.proofs.level.Goals as goal

pub loop-low-preserved-in-Ok : goal.loop-low-preserved-in-Ok
loop-low-preserved-in-Ok c =
    let l = c.loop-low in
    let g = came (pass_told c.args.stage c.outgrown-stage.ensures c.in-Ok.ensures) in (
      c.classes_from-classes.ensures.2,
      l.invariant.1,
      l.invariant.2,
      climb_more c.requires.2 l.invariant.3 g.widened c.classes_from-classes.result c.classes_from-classes.ensures.0 g.done,
    )

pub loop-low-smaller : goal.loop-low-smaller
loop-low-smaller c = omega (arith, c.classes_from-classes.ensures.3 (crowding c.in-Err-Crowded.field-0-is (pass_told c.args.stage c.outgrown-stage.ensures c.in-Err-Crowded.ensures)).1)

pub loop-low-preserved : goal.loop-low-preserved
loop-low-preserved c =
    let l = c.loop-low in
    let g = crowding c.in-Err-Crowded.field-0-is (pass_told c.args.stage c.outgrown-stage.ensures c.in-Err-Crowded.ensures) in (
      l.invariant.0,
      omega (arith, l.invariant.1),
      (λ f. l.invariant.2 (λ z. f (omega arith))),
      subst (λ (k : ℕ). Climbed c.args.job.n c.args.job.starts.now c.args.job.moves.now c.args.stage c.args.table.now c.pass.new.table k l.low)
          (sym c.in-Err-Crowded.c-is) (climb_crowded c.requires.2 l.invariant.3 g.0),
    )

pub returns-in-Err-Full : goal.returns-in-Err-Full
returns-in-Err-Full c = levelled_over c.requires.2 c.loop-low.invariant.3 (filled c.in-Err-Full.field-0-is (pass_told c.args.stage c.outgrown-stage.ensures c.in-Err-Full.ensures))

pub returns : goal.returns
returns c = levelled_to c.loop-low.invariant.3 c.loop-low-test.false
