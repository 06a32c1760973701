use lib.ListN.{get_or}
use mathlib.Core.Path.{sym, ◌∙◌}
use Prim.Native.Nat.{◌-◌}
use native.Mathlib.Omega.{arith}
use Rattle.generic_cube.proofs.CodeLaws.{turn_most}
use Rattle.move_lists.proofs.SimplifyLaws.{pushed_other, pushed_gone, pushed_joined}
use Rattle.move_lists.proofs.push.Goals as goal

pub returns-then-not-do_join : goal.returns-then-not-do_join
returns-then-not-do_join c = pushed_other c.requires (λ z. omega arith) (sym c.do_join.ensures ∙ c.if-not-do_join.true)

pub overflow_add-turn : goal.overflow_add-turn
overflow_add-turn c = let a = c.args in omega (arith, turn_most (get_or a.out.now (a.k - 1) 0), turn_most a.code, c.turn_of.ensures, c.turn_of-2.ensures)

pub returns-then-turn-eq0 : goal.returns-then-turn-eq0
returns-then-turn-eq0 c = pushed_gone c.requires (λ z. omega arith) (sym c.do_join.ensures ∙ c.if-not-do_join.false) (rw (c.turn_of.ensures, c.turn_of-2.ensures) at c.if-turn-eq0.true)

pub returns : goal.returns
returns c = pushed_joined c.requires (λ z. omega arith) (sym c.do_join.ensures ∙ c.if-not-do_join.false) (rw (c.turn_of.ensures, c.turn_of-2.ensures) at c.if-turn-eq0.false)
    (c.with_turn.ensures ∙ rw (c.turn_of.ensures, c.turn_of-2.ensures))
