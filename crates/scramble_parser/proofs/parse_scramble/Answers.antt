-- `parse_scramble`: the first pass knows all before the second writes.
use mathlib.Core.Path.{sym, ◌∙◌}
use Rattle.ground.proofs.RefusalLaws.{passed_on}
use Rattle.scramble_parser.proofs.ParseLaws.{read_size, parse_bad, parse_short, parse_room, parse_good}
use Rattle.scramble_parser.proofs.parse_scramble.Goals as goal

pub returns-then-not-is_size : goal.returns-then-not-is_size
returns-then-not-is_size c = rw c.into.ensures (read_size _ _ _ (sym c.is_size.ensures ∙ c.if-not-is_size.true))

pub returns-in_err-count : goal.returns-in_err-count
returns-in_err-count c =
    rw (passed_on _ c.from_residual.ensures.1) (parse_bad _ _ _ (sym c.is_size.ensures ∙ c.if-not-is_size.false) c.in_err-count.ensures)

pub returns-then-out-count : goal.returns-then-out-count
returns-then-out-count c =
    rw c.into-then-out-count.ensures (parse_short _ _ _ (sym c.is_size.ensures ∙ c.if-not-is_size.false) c.in_ok-count.ensures c.if-out-count.true)

pub write_moves-requires : goal.write_moves-requires
write_moves-requires c =
    let s = sym c.is_size.ensures ∙ c.if-not-is_size.false in (s, parse_room _ _ c.args.out.now s c.in_ok-count.ensures c.if-out-count.false)

pub returns : goal.returns
returns c =
    parse_good _ _ _ (sym c.is_size.ensures ∙ c.if-not-is_size.false) c.in_ok-count.ensures c.if-out-count.false c.write_moves.ensures
