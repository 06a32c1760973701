-- `is_well_formed`: each key before i is less than the next.
use mathlib.Core.Path.{sym, ap, ◌∙◌}
use native.Mathlib.Omega.{arith}
use borrow.Author.Count.{below_more}
use Rattle.std.specs.Ordering.{is_lt}
use Rattle.table.specs.Order.{order_of}
use Rattle.table.proofs.OrderLaws.{order_told, is_less_lem}
use Rattle.table.proofs.TableLaws.{form_cut, form_fails, steps_formed}
use Rattle.table.proofs.is_well_formed.Goals as goal

pub returns-then-table-m-ne0 : goal.returns-then-table-m-ne0
returns-then-table-m-ne0 c = sym (form_cut _ _ c.if-table-m-ne0.true)

pub loop-i-preserved : goal.loop-i-preserved
unfolding order_of
loop-i-preserved c =
    below_more _ _ c.loop-i.invariant
    (λ some. order_told c.key.ensures c.key-in-loop-i.ensures c.compare.ensures ∙ is_less_lem _ (sym c.is_lt.ensures ∙ c.if-not-is_lt.false))

pub returns-then-not-is_lt : goal.returns-then-not-is_lt
unfolding order_of
returns-then-not-is_lt c =
    sym (form_fails _ _ c.loop-i.i (omega arith) (omega arith) (ap is_lt (order_told c.key.ensures c.key-in-loop-i.ensures c.compare.ensures) ∙ sym c.is_lt.ensures ∙ c.if-not-is_lt.true))

pub returns : goal.returns
returns c = sym (steps_formed _ _ (omega arith) (λ i lt. c.loop-i.invariant i (omega arith)))
