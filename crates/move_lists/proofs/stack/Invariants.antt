-- `stack`: the first i codes are on the stack.
use Rattle.move_lists.proofs.SimplifyLaws.{Stacked}
use Rattle.move_lists.proofs.stack.Given as goal

abbrev pub invariant-loop-code : goal.invariant-loop-code
invariant-loop-code l = Stacked l.list l.initial.out l.out l.k l.code-index
