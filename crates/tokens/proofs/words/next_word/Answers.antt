use Rattle.tokens.proofs.WordLaws.{skip_end}
use Rattle.tokens.proofs.words.next_word.Goals as goal

pub returns : goal.returns
returns c = skip_end _ c.skip-start.ensures c.if-start-text.false
