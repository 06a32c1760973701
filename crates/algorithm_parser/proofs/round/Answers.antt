use mathlib.Core.Path.{sym, ◌∙◌}
use native.Mathlib.Omega.{arith}
use Rattle.ground.proofs.ChoiceLaws.{between_bounds}
use Rattle.algorithm_parser.proofs.TellingLaws.{round_bad, round_once, round_more}
use Rattle.algorithm_parser.proofs.round.Goals as goal

pub returns-then-at-ne41 : goal.returns-then-at-ne41
returns-then-at-ne41 c = λ start a l. rw c.refuse.ensures (round_bad _ _ l (λ w. c.if-at-ne41.true (c.at.ensures ∙ w)))

pub returns-in_default : goal.returns-in_default
returns-in_default c = λ start a l. round_once _ _ l (sym c.at.ensures ∙ c.if-at-ne41.false) (rw c.at-2.ensures at c.in_default.ensures)

pub put_copies-next-requires : goal.put_copies-next-requires
put_copies-next-requires c =
    let d = between_bounds 49 57 _ c.in-Some.ensures.0 in (c.requires.0, omega (arith, d.0, c.in-Some.ensures.1))

pub returns : goal.returns
returns c = λ start a l.
    round_more _ _ l (sym c.at.ensures ∙ c.if-at-ne41.false) (rw c.at-2.ensures at c.in-Some.ensures.0) (rw c.at-2.ensures at c.in-Some.ensures.1)
    c.requires.0 c.put_copies-next.ensures
