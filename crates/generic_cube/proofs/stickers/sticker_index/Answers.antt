use mathlib.Core.Path.{sym, ◌∙◌}
use native.Mathlib.Omega.{arith}
use Rattle.generic_cube.proofs.StickerLaws.{Near, near}
use Rattle.generic_cube.proofs.stickers.sticker_index.Goals as goal
use Rattle.generic_cube.proofs.stickers.sticker_index.Goals.{Else-is_outside}

near-here : (c : Else-is_outside) → Near c.args.n c.in-Some.place c.args.index
near-here c =
    near c.args.n c.args.face c.args.index _ (sym c.is_size.ensures ∙ c.if-not-is_size.false) (sym c.face_number.ensures ∙ c.in-Some.is) (sym c.is_outside.ensures ∙ c.if-is_outside.false)

pub overflow_add-result : goal.overflow_add-result
overflow_add-result c = omega (arith, near-here c)

pub overflow_sub-result : goal.overflow_sub-result
overflow_sub-result c = omega (arith, near-here c)
