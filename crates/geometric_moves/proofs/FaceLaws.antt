-- Tests of faces: when two are one, and rules that a computed test shows of every face, every pair of faces and every rotation.
use mathlib.Core.Path.{◌≡◌, refl, ap, sym, ◌∙◌}
use mathlib.Core.Bool.{Bool, true, false, not, ◌&&◌, ◌||◌, true≢false}
use borrow.Author.Tests.{eqb-true, eq-eqb}
use Rattle.sticker.specs.declared.Face.{Face}
use Rattle.sticker.specs.declared.Face.TheVariants.{U, R, F, D, L, B}
use Rattle.sticker.specs.Place.{num_of, nth_face}
use Rattle.sticker.proofs.PlaceLaws.{num_nth}
use Rattle.geometric_moves.specs.declared.Rotation.{Rotation}
use Rattle.geometric_moves.specs.Turn.{rot, same_face}

pub same_face_lem : (f g : Face) → same_face f g ≡ true → f ≡ g
unfolding same_face
same_face_lem f g e = sym (num_nth f) ∙ ap nth_face (eqb-true (num_of f) (num_of g) e) ∙ num_nth g

pub same_self : (f : Face) → same_face f f ≡ true
unfolding same_face
same_self f = eq-eqb (num_of f) (num_of f) refl

pub and_left : (a b : Bool) → (a && b) ≡ true → a ≡ true
and_left true b e = refl
and_left false b e = absurd (true≢false (sym e))

pub and_right : (a b : Bool) → (a && b) ≡ true → b ≡ true
and_right true b e = e
and_right false b e = absurd (true≢false (sym e))

-- where a test implies another, and where one of two holds
pub if_then : {a b : Bool} → (not a || b) ≡ true → a ≡ true → b ≡ true
if_then {a} {b} e t = rw t at e

pub if_not : {a b : Bool} → (a || b) ≡ true → a ≡ false → b ≡ true
if_not {a} {b} e t = rw t at e

-- a test of every face, every pair, every triple of half axes
abbrev pub all_faces : (Face → Bool) → Bool
all_faces p = p U && (p R && (p F && (p D && (p L && p B))))

pub all_faces_lem : (p : Face → Bool) → all_faces p ≡ true → (f : Face) → p f ≡ true
all_faces_lem p e U = and_left (p U) _ e
all_faces_lem p e R = and_left (p R) _ (and_right (p U) _ e)
all_faces_lem p e F = and_left (p F) _ (and_right (p R) _ (and_right (p U) _ e))
all_faces_lem p e D = and_left (p D) _ (and_right (p F) _ (and_right (p R) _ (and_right (p U) _ e)))
all_faces_lem p e L = and_left (p L) _ (and_right (p D) _ (and_right (p F) _ (and_right (p R) _ (and_right (p U) _ e))))
all_faces_lem p e B = and_right (p L) _ (and_right (p D) _ (and_right (p F) _ (and_right (p R) _ (and_right (p U) _ e))))

pub all_pairs : (p : Face → Face → Bool) → all_faces (λ f. all_faces (p f)) ≡ true → (f g : Face) → p f g ≡ true
all_pairs p e f g = all_faces_lem (p f) (all_faces_lem (λ x. all_faces (p x)) e f) g

pub all_rotations : (p : Rotation → Bool) → all_faces (λ a. all_faces (λ b. all_faces (λ c. p (rot a b c)))) ≡ true → (r : Rotation) → p r ≡ true
all_rotations p e r = all_faces_lem (λ c. p (rot r.x r.y c)) (all_pairs (λ a b. all_faces (λ c. p (rot a b c))) e r.x r.y) r.z
