-- `dfs`: the answer is that of the candidates from this one on; each call has one move less.
use Prim.Native.Nat.{◌<◌}
use mathlib.Core.Path.{refl, sym, ◌∙◌}
use native.Mathlib.Omega.{arith}
use Rattle.generic_cube.proofs.CodeLaws.{list_code, list_fair}
use Rattle.geometric_moves.proofs.MovedLaws.{length_moved}
use Rattle.ida_star.proofs.VisitLaws.{visit_goal, visit_above, try_start, try_skip, try_end, level_two, try_next, try_found}
use Rattle.ida_star.proofs.Search.+dfs.Goals as goal

pub returns-then-number-eq0 : goal.returns-then-number-eq0
returns-then-number-eq0 t c =
    visit_goal (sym c.number-number.ensures ∙ c.if-number-eq0.true) (omega (arith, c.requires.slots))

pub returns-then-left-number : goal.returns-then-left-number
returns-then-left-number t c =
    let e = c.number-number.ensures in
    visit_above (λ d. omega (arith, e, d)) (omega (arith, e, c.if-left-number.true))

pub loop-code-init : goal.loop-code-init
loop-code-init t c =
    let e = c.number-number.ensures in
    try_start (λ d. omega (arith, e, d)) (omega (arith, e, c.if-left-number.false))

pub loop-code-preserved-then-path_bars : goal.loop-code-preserved-then-path_bars
loop-code-preserved-then-path_bars t c =
    try_skip c.loop-code.invariant c.loop-code-test.true (sym c.path_bars.ensures ∙ c.if-path_bars.true) refl refl

pub turn_level-requires : goal.turn_level-requires
turn_level-requires t c =
    let some_left : 0 < c.args.left = omega arith in
    let g = c.args.self.given in
    let l = c.loop-code in
    record {
      some = g.some;
      size = g.size;
      code = list_code _ _ g.listed l.code-index c.loop-code-test.true;
      fair = list_fair _ _ g.listed l.code-index g.some c.loop-code-test.true;
      room = omega (arith, level_two _ _ _ (some_left) c.requires.room, l.invariant.long);
    }

pub returns-in-Some : goal.returns-in-Some
returns-in-Some t c =
    let some_left : 0 < c.args.left = omega arith in
    try_found (λ x y. length_moved _ _ _) (some_left) c.requires.room c.requires.slots c.loop-code.invariant c.loop-code-test.true c.turn_level.ensures refl
    (sym c.path_bars.ensures ∙ c.if-path_bars.false) c.dfs.ensures c.dfs.auto.path c.dfs.auto.work
    refl refl c.in-Some.is

pub loop-code-preserved : goal.loop-code-preserved
loop-code-preserved t c =
    let some_left : 0 < c.args.left = omega arith in
    try_next (λ x y. length_moved _ _ _) some_left c.requires.room c.requires.slots c.loop-code.invariant c.loop-code-test.true c.turn_level.ensures refl
    (sym c.path_bars.ensures ∙ c.if-path_bars.false) c.dfs.ensures c.dfs.auto.path c.dfs.auto.work refl refl c.in_default.not-Some

pub returns : goal.returns
returns t c = try_end c.loop-code.invariant c.loop-code-test.false
