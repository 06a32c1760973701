-- `write_moves`: what is stored, with what is left to read, is the whole.
use mathlib.Core.Path.{◌∙◌}
use Rattle.std.proofs.lemmas.List.{set-get_or}
use Rattle.scramble_parser.proofs.ParseLaws.{store_end, store_more, store_bad}
use Rattle.scramble_parser.proofs.write_moves.Goals as goal

pub returns-in_default : goal.returns-in_default
returns-in_default c = set-get_or c.loop-slot.out _ 0 ∙ store_end c.loop-slot.invariant c.in_default.ensures

pub returns-in_default-read_word : goal.returns-in_default-read_word
returns-in_default-read_word c =
    set-get_or c.loop-slot.out _ 0 ∙ store_bad c.loop-slot.invariant c.in-Some.ensures c.in_default-read_word.ensures

pub loop-slot-preserved : goal.loop-slot-preserved
loop-slot-preserved c =
    store_more c.loop-slot.invariant c.in-Some.ensures c.in-Ok.ensures
