use mathlib.Core.Path.{sym, ◌∙◌}
use native.Mathlib.Omega.{arith}
use borrow.Author.Count.{below_more}
use Rattle.tokens.proofs.TokenLaws.{digits_are}
use Rattle.tokens.proofs.digits.Goals as goal

pub returns-then-not-is_digit : goal.returns-then-not-is_digit
returns-then-not-is_digit c =
    (digits_are _ _ (omega arith) c.loop-i.invariant (λ h. sym c.is_digit.ensures ∙ c.if-not-is_digit.true), omega arith)

pub loop-i-preserved : goal.loop-i-preserved
loop-i-preserved c = below_more _ _ c.loop-i.invariant (sym c.is_digit.ensures ∙ c.if-not-is_digit.false)

pub returns : goal.returns
returns c = (digits_are _ 4 (omega arith) (λ k h. c.loop-i.invariant k (omega arith)) (λ h. absurd (omega arith)), omega arith)
