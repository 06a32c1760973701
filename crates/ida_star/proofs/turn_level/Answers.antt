-- `turn_level`: the second level becomes a copy of the first, then the copy turned; the code is one that is taken.
use Prim.Native.Nat.{◌+◌, ◌-◌}
use mathlib.Core.Path.{◌≡◌, refl, sym, ap₂, subst, ◌∙◌}
use mathlib.Core.Bool.{true≢false}
use native.Mathlib.Omega.{arith}
use Rattle.generic_cube.specs.Sizes.{stickers}
use Rattle.generic_cube.specs.Code.{move_of}
use Rattle.generic_cube.specs.Inner.{Fair}
use Rattle.generic_cube.proofs.CodeLaws.{taken, refused}
use Rattle.geometric_moves.specs.Turn.{moved}
use Rattle.ida_star.proofs.VisitLaws.{second_long, put_next}
use Rattle.ida_star.proofs.turn_level.Goals as goal
use Rattle.ida_star.proofs.turn_level.Goals.{In-Ok}

-- the move that was read is the code's
move-is : (c : In-Ok) → c.in-Ok.m ≡ move_of c.args.code
move-is c = (taken _ _ c.in-Ok.ensures).0

pub unreachable-requires : goal.unreachable-requires
unreachable-requires c = true≢false (sym (refused _ _ c.in_default.ensures).1 ∙ c.requires.code)

pub apply_move-requires : goal.apply_move-requires
apply_move-requires c =
    let s = stickers c.args.n in
    let e : s + s - s ≡ s = omega arith in
    let long = second_long s c.args.work.now c.requires.room e c.double.ensures in
    record {
      sized = record { some = c.requires.some; size = omega (arith, c.requires.size) };
      fair = subst (Fair c.args.n) (sym (move-is (goal.at.apply_move-requires c).In-Ok)) c.requires.fair;
      old_long = long;
      new_long = long;
    }

pub returns : goal.returns
returns c =
    let s = stickers c.args.n in
    let e : s + s - s ≡ s = omega arith in
    put_next s c.args.work.now c.requires.room e c.double.ensures (moved c.args.n (move_of c.args.code))
    (c.apply_move.ensures ∙ ap₂ (moved c.args.n) (move-is (goal.at.returns c).In-Ok) refl)
