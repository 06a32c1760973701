-- `visit`: a starting cube is entered itself, an entry is fanned out.
use native.Mathlib.Omega.{arith}
use Rattle.generic_cube.specs.Sizes.{stickers}
use Rattle.table_level.proofs.SizeLaws.{cube_some}
use Rattle.table_level.proofs.LevelLaws.{start_is, visit_first, visit_later}
use Rattle.table_level.proofs.visit.Goals as goal

pub returns-then-number-eq0 : goal.returns-then-number-eq0
returns-then-number-eq0 c =
    visit_first _ _ c.if-number-eq0.true
    (start_is (stickers c.args.job.n) c.args.at c.args.job.starts.now (omega (arith, cube_some c.args.job.ready.turning.some)) (omega (arith, c.requires.2.first c.if-number-eq0.true)))
    c.enter.ensures

pub returns : goal.returns
returns c = visit_later _ _ c.if-number-eq0.false (omega (arith, c.requires.2.later c.if-number-eq0.false)) c.fan.ensures
