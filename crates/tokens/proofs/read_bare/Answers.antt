use mathlib.Core.Path.{sym, ◌∙◌}
use Rattle.tokens.specs.Inner.{Lettered}
use Rattle.tokens.proofs.TokenLaws.{out_letter, bare_digits, bare_letter, bare_none}
use Rattle.tokens.proofs.read_bare.Goals as goal
use Rattle.tokens.proofs.read_bare.Goals.{In-Some}

-- a letter stands in front
lettered : (c : In-Some) → Lettered c.args.t.now 0 c.in-Some.place
lettered c =
    record {
      digits = bare_digits _ c.requires.1;
      letter = c.in-Some.ensures.0;
      some = bare_letter _ c.in-Some.ensures.0 c.in-Some.ensures.1;
    }

pub returns-in_default : goal.returns-in_default
returns-in_default c = c.refuse.ensures ∙ out_letter _ _ 0 (bare_digits _ c.requires.1) (bare_none _ (c.in_default.ensures))

pub wide-requires : goal.wide-requires
wide-requires c =
    (c.requires.0, (lettered (goal.at.wide-requires c).In-Some), sym c.is_wide_token.ensures ∙ c.if-is_wide_token.true)

pub plain-requires : goal.plain-requires
plain-requires c =
    ((lettered (goal.at.plain-requires c).In-Some), sym c.is_wide_token.ensures ∙ c.if-is_wide_token.false)
