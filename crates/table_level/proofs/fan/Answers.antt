-- `fan`: the candidates one after the other.
use native.Mathlib.Omega.{arith}
use mathlib.Core.Path.{◌∙◌}
use Rattle.ground.proofs.ListLaws.{member_at}
use Rattle.ground.proofs.RefusalLaws.{passed_on}
use Rattle.table_level.specs.Inner.{went}
use Rattle.table_level.proofs.LevelLaws.{came, stretched_pass, fan_more, fan_all, child_cube}
use Rattle.table_level.proofs.fan.Goals as goal

pub child-requires : goal.child-requires
child-requires c =
    let g = c.loop-code.invariant in
    (member_at _ _ 0 c.loop-code-test.true, c.loop-code.auto.next ∙ c.requires.0, g.tracking, omega (arith, c.requires.2, g.widened.stayed.more))

pub returns-in_err-count : goal.returns-in_err-count
returns-in_err-count c =
    let w = c.loop-code.invariant.widened in
    rw (passed_on _ c.from_residual.ensures.1) (stretched_pass w (child_cube _ _ _ (w.key _ c.requires.2) c.in_err-count.ensures))

pub loop-code-preserved : goal.loop-code-preserved
loop-code-preserved c =
    let g = c.loop-code.invariant in
    fan_more _ g (came (child_cube _ _ _ (g.widened.key _ c.requires.2) c.in_ok-count.ensures))

pub returns : goal.returns
returns c = went (fan_all _ c.loop-code-test.false c.loop-code.invariant)
