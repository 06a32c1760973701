-- `compare`: the order of two keys is that of what is left of them behind i words.
use Prim.Native.Nat.{◌+◌, ◌-◌, ◌*◌, ◌/◌}
use mathlib.Core.Path.{◌≡◌, sym, ap₂, subst, ◌∙◌}
use native.Mathlib.Omega.{arith}
use lib.ListN.{length, drop, length-drop}
use lib.Seq.{take_all}
use Rattle.table.specs.Order.{order_of}
use Rattle.table.proofs.OrderLaws.{decided, decided_less, decided-next}
use Rattle.table.proofs.WordLaws.{decided_more, word_step_lem}
use Rattle.table.proofs.compare.Goals as goal
use Rattle.table.proofs.compare.Goals.{After-word-y}

-- the words at i decide, or what is left behind them
stepped : (c : After-word-y) → order_of c.args.a.now c.args.b.now ≡ decided c.word-x.result c.word-y.result (order_of (drop (6 * (c.loop-i.i + 1)) c.args.a.now) (drop (6 * (c.loop-i.i + 1)) c.args.b.now))
stepped c =
    c.loop-i.invariant
    ∙ word_step_lem _ _ c.requires (λ j. (c.type_inv.a j).fits) (λ j. (c.type_inv.b j).fits) c.loop-i.i (omega arith) c.word-x.ensures.0 c.word-y.ensures.0

pub returns-then-x-y : goal.returns-then-x-y
returns-then-x-y c =
    sym ((stepped (goal.at.returns-then-x-y c).After-word-y) ∙ decided_less _ c.if-x-y.true)

pub returns-then-y-x : goal.returns-then-y-x
returns-then-y-x c =
    sym ((stepped (goal.at.returns-then-y-x c).After-word-y) ∙ decided_more _ c.if-y-x.true)

pub loop-i-preserved : goal.loop-i-preserved
loop-i-preserved c =
    (stepped (goal.at.loop-i-preserved c).After-word-y) ∙ decided-next _ c.if-x-y.false c.if-y-x.false

pub returns : goal.returns
returns c =
    let a = c.args.a.now in
    let b = c.args.b.now in
    let k = 6 * (length a / 6) in
    c.compare_rest.ensures
    ∙ ap₂ order_of (take_all (length a - k) (drop k a) (omega (arith, length-drop k a))) (take_all (length b - k) (drop k b) (omega (arith, length-drop k b)))
    ∙ sym (subst (λ i. order_of a b ≡ order_of (drop (6 * i) a) (drop (6 * i) b)) (omega arith) c.loop-i.invariant)
