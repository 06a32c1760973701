use mathlib.Core.Path.{refl, ◌∙◌}
use native.Mathlib.Omega.{arith}
use Rattle.tokens.proofs.TokenLaws.{out_left, out_plain, suffix_plain, lettered_few, plain_kind_lem}
use Rattle.tokens.proofs.plain.Goals as goal

pub returns-then-t-end : goal.returns-then-t-end
returns-then-t-end c = c.refuse.ensures ∙ out_left _ _ 0 c.requires.0 (λ w. refl) (suffix_plain _ 0 c.requires.1) c.suffix-mark.ensures.0 c.if-t-end.true

pub plain_kind-kind-requires : goal.plain_kind-kind-requires
plain_kind-kind-requires c = omega (arith, (lettered_few _ _ c.requires.0).1)

pub code_of-requires : goal.code_of-requires
code_of-requires c = let k = plain_kind_lem _ (lettered_few _ _ c.requires.0).1 in record { kind = omega (arith, k.most, c.plain_kind-kind.ensures); width = omega arith; turn = c.suffix-mark.ensures.1 }

pub returns : goal.returns
returns c = out_plain _ _ 0 c.requires.0 (λ w. refl) (suffix_plain _ 0 c.requires.1) c.suffix-mark.ensures.0 c.if-t-end.false c.requires.1 c.plain_kind-kind.ensures c.code_of.ensures
