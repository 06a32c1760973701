-- `sweep`: the sources one after the other.
use Rattle.ground.proofs.RefusalLaws.{passed_on}
use Rattle.table_level.specs.Inner.{went}
use Rattle.table_level.proofs.LevelLaws.{came, sweep_pass, sweep_more, sweep_all}
use Rattle.table_level.proofs.sweep.Goals as goal

pub returns-in_err-count : goal.returns-in_err-count
returns-in_err-count c =
    let l = c.loop-at in
    rw (passed_on _ c.from_residual.ensures.1) (sweep_pass c.requires.2 l.auto.at c.loop-at-test.true l.invariant c.in_err-count.ensures)

pub loop-at-preserved : goal.loop-at-preserved
loop-at-preserved c =
    let l = c.loop-at in
    sweep_more c.requires.2 l.auto.at c.loop-at-test.true l.invariant (came c.in_ok-count.ensures)

pub returns : goal.returns
returns c = went (sweep_all c.loop-at-test.false c.loop-at.invariant)
