-- `stack`: the first i codes are on the stack.
use Rattle.move_lists.proofs.SimplifyLaws.{stack_asks, stack_more, stack_all}
use Rattle.move_lists.proofs.stack.Goals as goal

pub push-k-requires : goal.push-k-requires
push-k-requires c = stack_asks c.loop-code.invariant c.requires.0 c.requires.1 c.loop-code-test.true

pub loop-code-preserved : goal.loop-code-preserved
loop-code-preserved c = stack_more c.loop-code.invariant c.requires.1 c.loop-code-test.true c.push-k.auto.out c.push-k.ensures

pub returns : goal.returns
returns c = stack_all c.loop-code.invariant c.loop-code-test.false
