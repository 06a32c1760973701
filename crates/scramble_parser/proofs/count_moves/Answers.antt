-- `count_moves`: what was counted, with what is left to read, is the whole.
use mathlib.Core.Path.{◌∙◌}
use Rattle.ground.proofs.RefusalLaws.{passed_on}
use Rattle.scramble_parser.proofs.ParseLaws.{count_end, count_more, count_bad}
use Rattle.scramble_parser.proofs.count_moves.Goals as goal

pub returns-in_err-read_word : goal.returns-in_err-read_word
returns-in_err-read_word c =
    passed_on _ c.from_residual.ensures.1 ∙ count_bad c.loop-word.invariant c.in-Some.ensures c.in_err-read_word.ensures

pub loop-word-preserved : goal.loop-word-preserved
loop-word-preserved c = count_more c.loop-word.invariant c.in-Some.ensures c.in_ok-read_word.ensures

pub returns : goal.returns
returns c = count_end c.loop-word.invariant c.in_default.ensures
