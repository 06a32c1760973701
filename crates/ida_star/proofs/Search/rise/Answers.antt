-- `rise`: no pass so far has found a list.
use mathlib.Core.Path.{◌≡◌, refl, ap, ◌∙◌}
use mathlib.Core.List.{◌++◌}
use native.Mathlib.Omega.{arith}
use lib.ListN.{length, take, drop}
use lib.Seq.{length-take-le, length_front}
use Rattle.ida_star.proofs.PassesLaws.{passes_start, passes-next, passes_hit}
use Rattle.ida_star.proofs.Search.rise.Goals as goal

pub loop-left-init : goal.loop-left-init
loop-left-init c = (passes_start, refl)

pub returns-in-Some : goal.returns-in-Some
returns-in-Some c =
    let slots_lent : length (take c.args.limit c.loop-left.path) ≡ c.args.limit =
    length-take-le _ c.loop-left.path (omega (arith, c.loop-left.invariant.1, c.requires.starting.low)) in
    passes_hit c.loop-left.invariant.0 (omega arith) c.pass.ensures c.in-Some.is
    (drop c.args.limit c.loop-left.path) (c.pass.auto.path ∙ slots_lent)
    (ap (λ x. x ++ drop c.in-Some.count c.loop-left.out) c.copy.ensures)

pub loop-left-preserved : goal.loop-left-preserved
loop-left-preserved c =
    let array_back : length (c.pass.new.path ++ drop c.args.limit c.loop-left.path) ≡ 20 =
    length_front c.loop-left.path c.pass.new.path c.args.limit c.pass.auto.path ∙ c.loop-left.invariant.1 in
    (passes-next c.loop-left.invariant.0 (omega arith) c.pass.ensures (c.in_default.not-Some) c.pass.auto.work, array_back)
