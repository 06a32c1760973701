use mathlib.Core.Path.{sym, ◌∙◌}
use Rattle.ground.proofs.RefusalLaws.{passed_on}
use Rattle.scramble_parser.proofs.ParseLaws.{read_size}
use Rattle.algorithm_parser.proofs.AnswerLaws.{answer_bad, answer_sign, answer_short, answer_good}
use Rattle.algorithm_parser.proofs.parse_algorithm.Goals as goal

-- `parse_algorithm`: the first pass knows all before the second writes.
pub returns-then-not-is_size : goal.returns-then-not-is_size
returns-then-not-is_size c = rw c.into.ensures (read_size _ _ _ (sym c.is_size.ensures ∙ c.if-not-is_size.true))

pub returns-in_err-read : goal.returns-in_err-read
returns-in_err-read c =
    let a = c.args in
    rw (passed_on _ c.from_residual.ensures.1) (answer_bad a.n a.text.now a.out.now (sym c.is_size.ensures ∙ c.if-not-is_size.false) _ c.in_err-read.ensures)

pub returns-then-read-text : goal.returns-then-read-text
returns-then-read-text c =
    let a = c.args in
    rw c.into-then-read-text.ensures
    (answer_sign a.n a.text.now a.out.now (sym c.is_size.ensures ∙ c.if-not-is_size.false) _ c.in_ok-read.ensures c.if-read-text.true)

pub returns-then-out-read : goal.returns-then-out-read
returns-then-out-read c =
    let a = c.args in
    rw c.into-then-out-read.ensures
    (answer_short a.n a.text.now a.out.now (sym c.is_size.ensures ∙ c.if-not-is_size.false) _ c.in_ok-read.ensures c.if-read-text.false c.if-out-read.true)

pub returns : goal.returns
returns c =
    let a = c.args in
    answer_good a.n a.text.now a.out.now (sym c.is_size.ensures ∙ c.if-not-is_size.false) _ c.in_ok-read.ensures c.if-read-text.false c.if-out-read.false c.write.ensures
