-- The inverse of each of the 24 rotations undoes it. The rule is one computed test over all triples of half axes.
use mathlib.Core.Path.{◌≡◌, refl}
use mathlib.Core.Bool.{Bool, true, not, ◌&&◌, ◌||◌}
use Rattle.sticker.specs.declared.Face.{Face}
use Rattle.geometric_moves.specs.declared.Rotation.{Rotation}
use Rattle.geometric_moves.specs.Turn.{identity, rot_x, rot_y, rot_z, opposite, then_rot, same_face, whither, inverse_rot}
use Rattle.geometric_moves.proofs.FaceLaws.{same_face_lem, and_left, and_right, if_then, all_rotations}
use Rattle.geometric_moves.proofs.RotationLaws.{rot_eq}
use Rattle.theorems.specs.Geometry.{Made, none, by_x, by_y, by_z, InverseAfter, InverseBefore}

-- three half axes at right angles to each other
unfoldable same_axis : Face → Face → Bool
same_axis f g = same_face f g || same_face f (opposite g)

unfoldable square : Rotation → Bool
square r = not (same_axis r.x r.y) && (not (same_axis r.y r.z) && not (same_axis r.z r.x))

unfoldable same_rot : Rotation → Rotation → Bool
same_rot r s = same_face r.x s.x && (same_face r.y s.y && same_face r.z s.z)

same_rot_lem : (r s : Rotation) → same_rot r s ≡ true → r ≡ s
unfolding same_rot
same_rot_lem r s e =
    rot_eq (same_face_lem r.x s.x (and_left _ _ e))
    (same_face_lem r.y s.y (and_left _ _ (and_right (same_face r.x s.x) _ e)))
    (same_face_lem r.z s.z (and_right (same_face r.y s.y) _ (and_right (same_face r.x s.x) _ e)))

-- the inverse undoes, before and after
undone_after : (r : Rotation) → (not (square r) || same_rot (then_rot r (inverse_rot r)) identity) ≡ true
unfolding square same_axis same_rot inverse_rot whither same_face
undone_after r = all_rotations (λ r. not (square r) || same_rot (then_rot r (inverse_rot r)) identity) refl r

undone_before : (r : Rotation) → (not (square r) || same_rot (then_rot (inverse_rot r) r) identity) ≡ true
unfolding square same_axis same_rot inverse_rot whither same_face
undone_before r = all_rotations (λ r. not (square r) || same_rot (then_rot (inverse_rot r) r) identity) refl r

-- a quarter turn more keeps right angles
quarter_square : (q : Rotation) → Type 0
quarter_square q = (r : Rotation) → (not (square r) || square (then_rot r q)) ≡ true

square_X : quarter_square rot_x
unfolding quarter_square square same_axis same_face
square_X r = all_rotations (λ r. not (square r) || square (then_rot r rot_x)) refl r

square_Y : quarter_square rot_y
unfolding quarter_square square same_axis same_face
square_Y r = all_rotations (λ r. not (square r) || square (then_rot r rot_y)) refl r

square_Z : quarter_square rot_z
unfolding quarter_square square same_axis same_face
square_Z r = all_rotations (λ r. not (square r) || square (then_rot r rot_z)) refl r

made_square : {r : Rotation} → Made r → square r ≡ true
unfolding quarter_square square same_axis same_face
made_square none = refl
made_square (by_x {r} m) = if_then (square_X r) (made_square m)
made_square (by_y {r} m) = if_then (square_Y r) (made_square m)
made_square (by_z {r} m) = if_then (square_Z r) (made_square m)

pub inverse-after : InverseAfter
inverse-after r m = same_rot_lem _ _ (if_then (undone_after r) (made_square m))

pub inverse_before : InverseBefore
inverse_before r m = same_rot_lem _ _ (if_then (undone_before r) (made_square m))
