use mathlib.Core.Path.{◌≡◌, sym, subst, ◌∙◌}
use native.Mathlib.Omega.{arith}
use lib.ListN.{length}
use Rattle.tokens.specs.Inner.{Found}
use Rattle.tokens.proofs.WordLaws.{word_one, word_more, word_stop, word_all, word_sign}
use Rattle.tokens.proofs.words.word_end.Goals as goal

pub returns-then-is_sign : goal.returns-then-is_sign
returns-then-is_sign c = word_sign c.requires.0 c.requires.1 (sym c.is_sign.ensures ∙ c.if-is_sign.true)

pub loop-e-init : goal.loop-e-init
loop-e-init c = word_one c.requires.0 c.requires.1 (sym c.is_sign.ensures ∙ c.if-is_sign.false)

pub returns-then-ends_word : goal.returns-then-ends_word
returns-then-ends_word c = word_stop c.loop-e.invariant c.loop-e-test.true (sym c.ends_word.ensures ∙ c.if-ends_word.true)

pub loop-e-preserved : goal.loop-e-preserved
loop-e-preserved c = word_more c.loop-e.invariant c.loop-e-test.true (sym c.ends_word.ensures ∙ c.if-ends_word.false)

pub returns : goal.returns
returns c =
    let e : c.loop-e.e ≡ length c.args.text.now = omega arith in subst (Found _ _ _ _) e (word_all c.loop-e.invariant c.loop-e-test.false)
