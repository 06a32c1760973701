-- `find`: keys before low are less than the key, and it is less than those behind the span.
use Prim.Native.Nat.{ℕ, ◌+◌, ◌/◌}
use mathlib.Core.Path.{◌≡◌, refl, sym, ◌∙◌}
use native.Mathlib.Omega.{arith}
use Rattle.table.specs.Order.{order_of}
use Rattle.table.proofs.OrderLaws.{order_told, same_eq}
use Rattle.table.specs.Entries.{entry_key, Rising}
use Rattle.table.specs.Table.{entry_count}
use Rattle.table.proofs.TableLaws.{length_key, formed_rising, entries_look, look_found, half_less, half_more, look_halved}
use Rattle.table.proofs.Entries.find.Goals as goal
use Rattle.table.proofs.Entries.find.Goals.{After-compare, At-loop-span}

abbrev half_of : (c : At-loop-span) → ℕ
half_of c = c.loop-span.span / 2

rising : (c : At-loop-span) → Rising (entry_key c.args.self.m c.args.self.bytes.now) (entry_count c.args.self.m c.args.self.bytes.now)
rising c = formed_rising _ _ c.requires.1

-- the order of the middle key and the one that is looked up
compared : (c : After-compare) → order_of (entry_key c.args.self.m c.args.self.bytes.now (c.loop-span.low + (c.loop-span.span / 2))) c.args.key.now ≡ c.compare.result
unfolding order_of
compared c = order_told c.key.ensures refl c.compare.ensures

pub compare-requires : goal.compare-requires
compare-requires c = rw c.key.ensures (length_key c.args.self.m (c.loop-span.low + (c.loop-span.span / 2)) c.args.self.bytes.now (omega (arith, c.loop-span.invariant.most)) ∙ sym c.requires.0)

pub returns-in-Equal : goal.returns-in-Equal
returns-in-Equal c =
    let k0 = (goal.at.returns-in-Equal c).At-loop-span in
    λ d. c.number.ensures ∙ sym (entries_look c.args.self.m c.args.self.bytes.now c.args.key.now d
    ∙ look_found _ _ _ _ (rising k0) _ (c.loop-span.low + (half_of k0)) (omega (arith, c.loop-span.invariant.most)) (same_eq _ _ ((compared (goal.at.returns-in-Equal c).After-compare) ∙ c.in-Equal.is)))

pub loop-span-preserved-in-Less : goal.loop-span-preserved-in-Less
loop-span-preserved-in-Less c =
    let k0 = (goal.at.loop-span-preserved-in-Less c).At-loop-span in
    half_less (rising k0) c.loop-span.invariant (half_of k0) (omega arith) ((compared (goal.at.loop-span-preserved-in-Less c).After-compare) ∙ c.in-Less.is)

pub loop-span-preserved : goal.loop-span-preserved
loop-span-preserved c =
    let k0 = (goal.at.loop-span-preserved c).At-loop-span in
    half_more (rising k0) c.loop-span.invariant (half_of k0) (omega arith) ((compared (goal.at.loop-span-preserved c).After-compare) ∙ c.in-Greater.is)

pub returns : goal.returns
returns c = λ d. sym (entries_look c.args.self.m c.args.self.bytes.now c.args.key.now d ∙ look_halved _ _ c.loop-span.invariant (omega (arith, c.loop-span-test.false)))
