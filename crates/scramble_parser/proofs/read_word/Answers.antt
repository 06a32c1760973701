use mathlib.Core.Path.{ap, ◌∙◌}
use native.Mathlib.Omega.{arith}
use Rattle.scramble_parser.specs.Inner.{in_text}
use Rattle.scramble_parser.proofs.ParseLaws.{fault_within}
use Rattle.scramble_parser.proofs.read_word.Goals as goal

pub overflow_add-word : goal.overflow_add-word
overflow_add-word c = let w = fault_within c.args.n c.args.text.now c.requires.1 c.requires.2 c.in-Err.ensures in omega arith

pub returns-in-Err : goal.returns-in-Err
returns-in-Err c = c.refuse.ensures ∙ ap (in_text c.args.word.start) c.in-Err.ensures

pub returns-in-Ok : goal.returns-in-Ok
returns-in-Ok c = ap (in_text c.args.word.start) c.in-Ok.ensures
