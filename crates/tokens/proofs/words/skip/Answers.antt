use mathlib.Core.Path.{sym, ◌∙◌}
use Rattle.tokens.proofs.WordLaws.{skip_more}
use Rattle.tokens.proofs.words.skip.Goals as goal

pub loop-j-preserved : goal.loop-j-preserved
loop-j-preserved c = skip_more c.loop-j.invariant c.loop-j-test.true (sym c.is_space.ensures ∙ c.if-not-is_space.false)
