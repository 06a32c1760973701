use Rattle.tokens.specs.Inner.{signs_of}
use Rattle.tokens.proofs.WordLaws.{InWord}
use Rattle.tokens.proofs.words.word_end.Given as goal

abbrev pub invariant-loop-e : goal.invariant-loop-e
invariant-loop-e l = InWord (signs_of l.grouped) l.text l.i l.e
