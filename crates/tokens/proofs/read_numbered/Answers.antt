use mathlib.Core.Path.{sym, ◌∙◌}
use native.Mathlib.Omega.{arith}
use Rattle.tokens.specs.Inner.{Lettered}
use Rattle.tokens.proofs.TokenLaws.{out_digits, out_no_letter, out_w, face_letter}
use Rattle.tokens.proofs.read_numbered.Goals as goal
use Rattle.tokens.proofs.read_numbered.Goals.{In-Some}

-- a face's letter stands behind the digits
lettered : (c : In-Some) → Lettered c.args.t.now c.args.k c.in-Some.place
lettered c =
    record {
      digits = sym c.has_bad_digits.ensures ∙ c.if-has_bad_digits.false;
      letter = c.in-Some.ensures.0;
      some = face_letter _ c.requires.1 c.in-Some.ensures.0 c.in-Some.ensures.1;
    }

pub returns-then-has_bad_digits : goal.returns-then-has_bad_digits
returns-then-has_bad_digits c = c.refuse.ensures ∙ out_digits _ _ _ (sym c.has_bad_digits.ensures ∙ c.if-has_bad_digits.true)

pub returns-in_default : goal.returns-in_default
returns-in_default c =
    c.refuse-in_default.ensures ∙ out_no_letter _ _ _ (sym c.has_bad_digits.ensures ∙ c.if-has_bad_digits.false) c.requires.1 c.in_default.ensures

pub wide-requires : goal.wide-requires
wide-requires c =
    (c.requires.0, (lettered (goal.at.wide-requires c).In-Some), sym c.is_wide_token.ensures ∙ c.if-is_wide_token.true)

pub returns : goal.returns
returns c =
    c.refuse-2.ensures ∙ out_w _ _ _ (lettered (goal.at.returns c).In-Some) (sym c.is_wide_token.ensures ∙ c.if-is_wide_token.false) (λ z. omega (arith, c.requires.1))
