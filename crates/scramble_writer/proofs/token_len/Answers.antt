use native.Mathlib.Omega.{arith}
use mathlib.Core.Path.{sym, ◌∙◌}
use Rattle.scramble_writer.proofs.WriteLaws.{wide_length, plain_length}
use Rattle.scramble_writer.proofs.token_len.Goals as goal

pub returns-then-is_wide : goal.returns-then-is_wide
returns-then-is_wide c = let l = wide_length c.args.m (sym c.is_wide.ensures ∙ c.if-is_wide.true) in (omega arith, omega arith)

pub returns : goal.returns
returns c = let l = plain_length c.args.m (sym c.is_wide.ensures ∙ c.if-is_wide.false) in (omega arith, omega arith)
