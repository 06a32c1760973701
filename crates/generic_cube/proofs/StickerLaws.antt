-- The place of a face's letter, and the sizes on the way to a sticker's index.
use Prim.Native.Nat.{ℕ, ◌*◌, ◌≤◌}
use mathlib.Core.Path.{◌≡◌}
use native.Mathlib.Omega.{arith}
use native.Mathlib.Nat.{mul-le-mul}
use mathlib.Core.Bool.{true, false, not}
use borrow.Author.Tests.{ltb-false}
use Rattle.ground.proofs.ChoiceLaws.{bool_cases}
use Rattle.std.specs.Prelude.{Option, Some, None, position, ◌==◌}
use Rattle.std.proofs.lemmas.List.Sums.{prefix_len-le-length}
use lib.Dec.{ltb}
use Rattle.generic_cube.specs.Sizes.{sized, letters}
use Rattle.generic_cube.specs.StickerIndex.{face_number}
use Rattle.generic_cube.specs.Code.{outside}
use Rattle.generic_cube.proofs.CodeLaws.{sized_bounds, inside}

-- a letter that is found has the face's number, and where none is found that is 6
pub letter_found : (face k : ℕ) → position (λ x. x == face) letters ≡ Some k → k ≡ face_number face
letter_found face k e =
    bool_cases (ltb (face_number face) 6)
    (λ t. let q : ◌≡◌ {A = Option ℕ} (Some (face_number face)) (Some k) = rw t at e in cc)
    (λ t. let q : ◌≡◌ {A = Option ℕ} None (Some k) = rw t at e in let z : ◌≡◌ {A = ℕ} 0 1 = cc in absurd (omega arith))

pub letter_missing : (face : ℕ) → position (λ x. x == face) letters ≡ None → face_number face ≡ 6
letter_missing face e =
    bool_cases (ltb (face_number face) 6)
    (λ t. let q : ◌≡◌ {A = Option ℕ} (Some (face_number face)) None = rw t at e in let z : ◌≡◌ {A = ℕ} 0 1 = cc in absurd (omega arith))
    (λ t. omega (arith, ltb-false _ _ t, prefix_len-le-length (λ x. not (x == face)) letters))

-- the sizes on the way to the index of sticker i of face k
pub record Near (n k i : ℕ) : Type 0 where
  pub row : k * n ≤ 624
  pub side : k * n * n ≤ 64896
  pub some : 1 ≤ i
  pub most : i ≤ 10816

pub near : (n face i k : ℕ) → sized n ≡ true → position (λ x. x == face) letters ≡ Some k → outside 1 (n * n) i ≡ false → Near n k i
near n face i k e f o =
    let b = sized_bounds n e in
    let l : face_number face ≤ 6 = prefix_len-le-length (λ x. not (x == face)) letters in
    let r = mul-le-mul {n₁ = k} {m₁ = n} {n₂ = 6} {m₂ = 104} (omega (arith, letter_found face k f)) b.1 in
    let q = mul-le-mul b.1 b.1 in
    let s = inside 1 (n * n) i o in
    record { row = omega arith; side = mul-le-mul r b.1; some = s.0; most = omega arith }
