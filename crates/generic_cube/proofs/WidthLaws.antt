-- How many widths the last six bits of a code leave it, and that its test is whether the code is bad.
use Prim.Native.Nat.{ℕ, zero, suc, ◌/◌, ◌%◌, ◌<◌}
use mathlib.Core.Path.{◌≡◌, refl, ap, ◌∙◌}
use mathlib.Core.Bool.{Bool, true, false, not, ◌&&◌, ◌||◌}
use mathlib.Core.List.{List, [], ◌∷◌}
use native.Mathlib.Omega.{arith}
use lib.Dec.{leb, eqb}
use lib.ListN.{get_or}
use borrow.Author.Tests.{eqb-true, ne_eqb, le-leb, lt-leb}
use Rattle.ground.specs.Choice.{pick, between}
use Rattle.ground.proofs.ChoiceLaws.{any_below, tested}
use Rattle.generic_cube.specs.Code.{move_of, is_wide, bad_code}

-- turn by turn, kind by kind
unfoldable pub widths : List ℕ
widths =
    0 ∷ 1 ∷ 1 ∷ 1 ∷ 0 ∷ 1 ∷ 1 ∷ 1 ∷ 0 ∷ 1 ∷ 1 ∷ 1 ∷ 0 ∷ 1 ∷ 1 ∷ 1 ∷
    0 ∷ 1 ∷ 1 ∷ 1 ∷ 0 ∷ 1 ∷ 1 ∷ 1 ∷ 0 ∷ 1024 ∷ 1024 ∷ 1024 ∷ 0 ∷ 1024 ∷ 1024 ∷ 1024 ∷
    0 ∷ 1024 ∷ 1024 ∷ 1024 ∷ 0 ∷ 1024 ∷ 1024 ∷ 1024 ∷ 0 ∷ 1024 ∷ 1024 ∷ 1024 ∷ 0 ∷ 1024 ∷ 1024 ∷ 1024 ∷
    0 ∷ 1 ∷ 1 ∷ 1 ∷ 0 ∷ 1 ∷ 1 ∷ 1 ∷ 0 ∷ 1 ∷ 1 ∷ 1 ∷ 0 ∷ 0 ∷ 0 ∷ 0 ∷ []

-- none, one or all of them
abbrev pub widths_left : ℕ → ℕ
widths_left l = pick (eqb (l % 4) 0 || eqb (l / 4) 15) 0 (pick (is_wide (l / 4)) 1024 1)

widths_are : (l : ℕ) → l < 64 → get_or widths l 0 ≡ widths_left l
unfolding widths is_wide between any_below
widths_are l h = eqb-true _ _ (tested (λ x. eqb (get_or widths x 0) (widths_left x)) 64 refl l h)

-- a width is bad exactly if so many are no more than it
left_tell : (a b w : Bool) (x : ℕ) → x < 1024 → leb (pick (a || b) 0 (pick w 1024 1)) x ≡ (a || b || (not w && not (eqb x 0)))
left_tell true b w x h = le-leb 0 x (omega arith)
left_tell false true w x h = le-leb 0 x (omega arith)
left_tell false false true x h = lt-leb 1024 x h
left_tell false false false zero h = lt-leb 1 0 (omega arith)
left_tell false false false (suc x) h = rw (le-leb 1 (suc x) (omega arith), ne_eqb (suc x) 0 (λ e. omega arith))

pub widths_tell : (c : ℕ) → c < 65536 → leb (get_or widths (c % 64) 0) (c / 64) ≡ bad_code (move_of c)
unfolding bad_code move_of
widths_tell c h =
    let t : c % 64 % 4 ≡ c % 4 = omega arith in
    let k : c % 64 / 4 ≡ c / 4 % 16 = omega arith in
    ap (λ (i : ℕ). leb i (c / 64)) (widths_are (c % 64) (omega arith))
    ∙ rw (t, k) (left_tell (eqb (c % 4) 0) (eqb (c / 4 % 16) 15) (is_wide (c / 4 % 16)) (c / 64) (omega arith))
