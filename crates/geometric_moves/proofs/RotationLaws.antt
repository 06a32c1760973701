-- Laws of rotations: they compose, quarters about one axis add up, and at positions they do what their parts do.
use Prim.Native.Nat.{ℕ, zero, suc, ◌+◌, ◌*◌, ◌/◌, ◌%◌}
use mathlib.Core.Path.{◌≡◌, refl, ap, sym, ◌∙◌}
use native.Mathlib.Omega.{arith}
use native.Mathlib.Nat.{add-zero, add-suc}
use Rattle.sticker.specs.declared.Face.{Face}
use Rattle.sticker.specs.declared.Face.TheVariants.{U, R, F, D, L, B}
use Rattle.sticker.specs.Place.{Pos, neg, InCube}
use Rattle.sticker.proofs.PlaceLaws.{pos_eq}
use Rattle.geometric_moves.specs.declared.Rotation.{Rotation}
use Rattle.geometric_moves.specs.Turn.{toward, rotate, identity, opposite, facing, then_rot, same_face, whither, inverse_rot, turn_of, quarter_of}

pub rot_eq : {r s : Rotation} → r.x ≡ s.x → r.y ≡ s.y → r.z ≡ s.z → r ≡ s
rot_eq a b c = λ i. record { x = a i; y = b i; z = c i }

pub opposite-twice : (f : Face) → opposite (opposite f) ≡ f
opposite-twice U = refl
opposite-twice R = refl
opposite-twice F = refl
opposite-twice D = refl
opposite-twice L = refl
opposite-twice B = refl

pub facing-opposite : (r : Rotation) (f : Face) → facing r (opposite f) ≡ opposite (facing r f)
facing-opposite r U = refl
facing-opposite r R = refl
facing-opposite r F = refl
facing-opposite r D = sym (opposite-twice r.y)
facing-opposite r L = sym (opposite-twice r.x)
facing-opposite r B = sym (opposite-twice r.z)

pub facing_then : (r s : Rotation) (f : Face) → facing (then_rot r s) f ≡ facing r (facing s f)
facing_then r s U = refl
facing_then r s R = refl
facing_then r s F = refl
facing_then r s D = sym (facing-opposite r s.y)
facing_then r s L = sym (facing-opposite r s.x)
facing_then r s B = sym (facing-opposite r s.z)

pub then_assoc : (r s t : Rotation) → then_rot (then_rot r s) t ≡ then_rot r (then_rot s t)
then_assoc r s t = rot_eq (facing_then r s t.x) (facing_then r s t.y) (facing_then r s t.z)

facing-identity : (f : Face) → facing identity f ≡ f
facing-identity U = refl
facing-identity R = refl
facing-identity F = refl
facing-identity D = refl
facing-identity L = refl
facing-identity B = refl

pub identity_then : (r : Rotation) → then_rot identity r ≡ r
identity_then r = rot_eq (facing-identity r.x) (facing-identity r.y) (facing-identity r.z)

pub then_identity : (r : Rotation) → then_rot r identity ≡ r
then_identity r = refl

pub turn_one : (r : Rotation) → turn_of 1 r ≡ r
unfolding turn_of
turn_one r = identity_then r

pub turn_two : (r : Rotation) → turn_of 2 r ≡ then_rot r r
unfolding turn_of
turn_two r = ap (λ s. then_rot s r) (identity_then r)

pub turn_three : (r : Rotation) (t : ℕ) → t ≡ 3 → turn_of t r ≡ then_rot (then_rot r r) r
unfolding turn_of
turn_three r t e = ap (λ k. turn_of k r) e ∙ ap (λ s. then_rot s r) (turn_two r)

-- turns add up
pub turn_add : (a b : ℕ) (r : Rotation) → turn_of (a + b) r ≡ then_rot (turn_of a r) (turn_of b r)
unfolding turn_of
turn_add a zero r = ap (λ t. turn_of t r) (add-zero a) ∙ sym (then_identity (turn_of a r))
turn_add a (suc b) r =
    ap (λ t. turn_of t r) (add-suc a b) ∙ ap (λ s. then_rot s r) (turn_add a b r) ∙ then_assoc (turn_of a r) (turn_of b r) r

-- four quarters are none
turn_four : (f : Face) → turn_of 4 (quarter_of f) ≡ identity
unfolding turn_of quarter_of inverse_rot whither same_face
turn_four U = refl
turn_four R = refl
turn_four F = refl
turn_four D = refl
turn_four L = refl
turn_four B = refl

fours : (f : Face) (k t : ℕ) → turn_of (k * 4 + t) (quarter_of f) ≡ turn_of t (quarter_of f)
fours f zero t = ap (λ a. turn_of a (quarter_of f)) (omega arith)
fours f (suc k) t =
    let e : suc k * 4 + t ≡ 4 + (k * 4 + t) = omega arith in
    ap (λ a. turn_of a (quarter_of f)) e ∙ turn_add 4 (k * 4 + t) (quarter_of f)
    ∙ ap (λ s. then_rot s (turn_of (k * 4 + t) (quarter_of f))) (turn_four f)
    ∙ identity_then (turn_of (k * 4 + t) (quarter_of f)) ∙ fours f k t

-- so turns count modulo 4
pub turn_mod : (f : Face) (a b : ℕ) → a % 4 ≡ b % 4 → turn_of a (quarter_of f) ≡ turn_of b (quarter_of f)
turn_mod f a b e =
    ap (λ t. turn_of t (quarter_of f)) {x = a} {y = a / 4 * 4 + a % 4} (omega arith) ∙ fours f (a / 4) (a % 4)
    ∙ ap (λ t. turn_of t (quarter_of f)) e
    ∙ sym (ap (λ t. turn_of t (quarter_of f)) {x = b} {y = b / 4 * 4 + b % 4} (omega arith) ∙ fours f (b / 4) (b % 4))

-- a turn about an axis keeps the axis
quarter_axis : (f : Face) → facing (quarter_of f) f ≡ f
unfolding quarter_of inverse_rot whither same_face
quarter_axis U = refl
quarter_axis R = refl
quarter_axis F = refl
quarter_axis D = refl
quarter_axis L = refl
quarter_axis B = refl

pub turn_axis : (f : Face) (t : ℕ) → facing (turn_of t (quarter_of f)) f ≡ f
unfolding turn_of
turn_axis f zero = facing-identity f
turn_axis f (suc t) =
    facing_then (turn_of t (quarter_of f)) (quarter_of f) f ∙ ap (facing (turn_of t (quarter_of f))) (quarter_axis f) ∙ turn_axis f t

-- at positions
module _ (n : ℕ) (p : Pos) (h : InCube n p) where
  pub neg-toward : (f : Face) → neg n (toward n p f) ≡ toward n p (opposite f)
  neg-toward U = refl
  neg-toward R = refl
  neg-toward F = refl
  neg-toward D = omega arith
  neg-toward L = omega arith
  neg-toward B = omega arith

  pub toward-rotate : (r : Rotation) (f : Face) → toward n (rotate n r p) f ≡ toward n p (facing r f)
  toward-rotate r U = refl
  toward-rotate r R = refl
  toward-rotate r F = refl
  toward-rotate r D = neg-toward r.y
  toward-rotate r L = neg-toward r.x
  toward-rotate r B = neg-toward r.z

  -- one rotation after another is one rotation
  pub rotate_then : (r s : Rotation) → rotate n s (rotate n r p) ≡ rotate n (then_rot r s) p
  rotate_then r s = pos_eq _ _ (toward-rotate r s.x) (toward-rotate r s.y) (toward-rotate r s.z)
