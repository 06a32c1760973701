use mathlib.Core.Path.{◌≡◌, sym, ◌∙◌}
use mathlib.Core.Bool.{false, true≢false}
use native.Mathlib.Omega.{arith}
use Rattle.generic_cube.proofs.CodeLaws.{sized_bounds, inside}
use Rattle.tokens.specs.Token.{is_wide_token}
use Rattle.tokens.proofs.TokenLaws.{out_left, out_width, out_wide, suffix_wide, lettered_few}
use Rattle.tokens.proofs.wide.Goals as goal
use Rattle.tokens.proofs.wide.Goals.{After-is_outside-unfit}

-- a wide token was read up to its suffix
wide : (c : After-is_outside-unfit) → is_wide_token c.args.t.now c.args.k ≡ false → c.args.k ≡ 0
wide c =
    λ w. absurd (true≢false (sym c.requires.2 ∙ w))

pub overflow_add-k : goal.overflow_add-k
overflow_add-k c = omega (arith, (lettered_few _ _ c.requires.1).0)

pub overflow_add-wide_end : goal.overflow_add-wide_end
overflow_add-wide_end c = omega (arith, (lettered_few _ _ c.requires.1).0)

pub overflow_add-wide_end-2 : goal.overflow_add-wide_end-2
overflow_add-wide_end-2 c = omega (arith, (lettered_few _ _ c.requires.1).0, c.suffix-mark.ensures.2)

pub overflow_sub-n : goal.overflow_sub-n
overflow_sub-n c = (sized_bounds _ c.requires.0).0

pub returns-then-t-wide_end : goal.returns-then-t-wide_end
returns-then-t-wide_end c =
    c.refuse.ensures ∙ out_left _ _ _ c.requires.1 (wide (goal.at.returns-then-t-wide_end c).After-is_outside-unfit) (suffix_wide _ _ c.requires.2) c.suffix-mark.ensures.0 c.if-t-wide_end.true

pub returns-then-unfit : goal.returns-then-unfit
returns-then-unfit c =
    c.refuse-then-unfit.ensures ∙ out_width _ _ _ c.requires.1 (wide (goal.at.returns-then-unfit c).After-is_outside-unfit) (suffix_wide _ _ c.requires.2) c.suffix-mark.ensures.0 (omega arith) c.requires.2 c.width-width.ensures (sym c.is_outside-unfit.ensures ∙ c.if-unfit.true)

pub overflow_add-kind : goal.overflow_add-kind
overflow_add-kind c = omega (arith, (lettered_few _ _ c.requires.1).1)

pub code_of-requires : goal.code_of-requires
code_of-requires c = let s = sized_bounds _ c.requires.0 in let w = inside _ _ _ (sym c.is_outside-unfit.ensures ∙ c.if-unfit.false) in record { kind = omega (arith, (lettered_few _ _ c.requires.1).1); width = omega arith; turn = c.suffix-mark.ensures.1 }

pub returns : goal.returns
returns c =
    out_wide _ _ _ c.requires.1 (wide (goal.at.returns c).After-is_outside-unfit) (suffix_wide _ _ c.requires.2) c.suffix-mark.ensures.0 (omega arith) c.requires.2 c.width-width.ensures (sym c.is_outside-unfit.ensures ∙ c.if-unfit.false) c.code_of.ensures
