-- Laws of solved cubes, the solved test and masks.
use Prim.Native.Nat.{ℕ, ◌+◌, ◌-◌, ◌*◌, ◌<◌, ◌≤◌}
use mathlib.Core.Path.{◌≡◌, refl, sym, ap, subst, ◌∙◌}
use mathlib.Core.Bool.{Bool, true, not}
use mathlib.Core.List.{List, [], ◌∷◌, ◌++◌}
use native.Mathlib.Omega.{arith}
use native.Mathlib.Nat.{zero-add, mul-le-mul_right, suc-mul, mul_assoc}
use lib.Dec.{leb, eqb}
use lib.ListN.{length, get_or, set, take, drop}
use lib.Seq.{take_all}
use lib.Pointwise.{pointwise}
use borrow.Author.Tests.{eqb-true, eq-eqb, leb-false, not-false}
use Rattle.std.specs.List.{list_any, list_all}
use Rattle.ground.specs.Choice.{pick, any, all}
use Rattle.std.specs.Prelude.{Err}
use Rattle.ground.specs.declared.refusals.Refusal.{Refusal}
use Rattle.ground.specs.Refusals.{Row, ◌when◌, lowest}
use Rattle.ground.proofs.ChoiceLaws.{bool_cases, any_none}
use Rattle.ground.proofs.RefusalLaws.{passed, lowest-front, lowest_behind}
use Rattle.ground.specs.Lists.{tabulate, up_from}
use Rattle.ground.proofs.FillLaws.{Filling, fill_more, fill_all, Changing}
use Rattle.generic_cube.specs.Sizes.{stickers, letter_x}
use Rattle.generic_cube.specs.Answers.{done}
use Rattle.generic_cube.specs.Inner.{Sized}
use Rattle.generic_cube.proofs.AnswerLaws.{err_number}
use Rattle.generic_cube.proofs.CodeLaws.{size_in_range, bounds_sized}
use Rattle.ground.proofs.PutLaws.{get_d_from}
use Rattle.sticker.proofs.PlaceLaws.{room}
use Rattle.facelet_cube.specs.InnerFacelets.{Pointwise}
use Rattle.facelet_cube.specs.Inner.{Whole, Masks}
use Rattle.facelet_cube.specs.Cube.{cube_rows, cube_refusal, one_byte, face_stickers, large_id, mask_rows, mask_refusal, masked}

pub whole_slice : (n long : ℕ) → cube_refusal n long ≡ 0 → Whole n long
unfolding cube_refusal
whole_slice n long e =
    let p = passed (cube_rows n long) refl e in
    record { size = size_in_range (not-false _ p.0); long_is = eqb-true _ _ (not-false _ p.1.0) }

pub whole_cube : {n long : ℕ} → Whole n long → cube_refusal n long ≡ 0
unfolding cube_refusal lowest
whole_cube {n} {long} w = rw (bounds_sized n w.size.some w.size.size, eq-eqb _ _ w.long_is)

-- a check of slices, one after the other: the first that is refused answers, and behind one that is taken the rows that follow do
module _ (n long : ℕ) (more : List Row) where
  pub refused_here : {k : ℕ} {r : Refusal} → k ≡ lowest (cube_rows n long ++ more) → Err r ≡ done (cube_refusal n long) → Err r ≡ done k
  unfolding cube_refusal
  refused_here e d = d ∙ ap done (sym (e ∙ lowest-front (cube_rows n long) more (err_number _ tt d).0))

  pub taken_here : Whole n long → lowest (cube_rows n long ++ more) ≡ lowest more
  unfolding cube_refusal
  taken_here w = lowest_behind (cube_rows n long) more (passed (cube_rows n long) refl (whole_cube w))

  pub sized_rows : Sized n → lowest (2 when not (eqb long (stickers n)) ∷ more) ≡ lowest (cube_rows n long ++ more)
  unfolding lowest
  sized_rows z = rw (bounds_sized n z.some z.size)

-- the checks of a mask: the cube, the ids, the keep slice, and then the ids themselves
module _ (n cube : ℕ) (ids : List ℕ) (keep : ℕ) where
  large_row : List Row
  large_row = 10 when large_id (stickers n) ids ∷ []

  mask_ids_rows : List Row
  mask_ids_rows = 2 when not (eqb keep (stickers n)) ∷ 10 when large_id (stickers n) ids ∷ []

  pub mask_cube : {r : Refusal} → Err r ≡ done (cube_refusal n cube) → Err r ≡ done (mask_refusal n cube ids keep)
  unfolding mask_refusal mask_ids_rows
  mask_cube e = refused_here n cube (2 when not (eqb (length ids) (stickers n)) ∷ mask_ids_rows) refl e

  module _ (w : Whole n cube) where
    mask_behind_cube : mask_refusal n cube ids keep ≡ lowest (cube_rows n (length ids) ++ mask_ids_rows)
    unfolding mask_refusal mask_ids_rows
    mask_behind_cube =
        taken_here n cube (2 when not (eqb (length ids) (stickers n)) ∷ mask_ids_rows) w ∙ sized_rows n (length ids) mask_ids_rows w.size

    pub mask_ids : {r : Refusal} → Err r ≡ done (cube_refusal n (length ids)) → Err r ≡ done (mask_refusal n cube ids keep)
    mask_ids e = refused_here n (length ids) mask_ids_rows mask_behind_cube e

    module _ (i : Whole n (length ids)) where
      mask_behind_ids : mask_refusal n cube ids keep ≡ lowest (cube_rows n keep ++ large_row)
      unfolding mask_ids_rows large_row
      mask_behind_ids = mask_behind_cube ∙ taken_here n (length ids) mask_ids_rows i ∙ sized_rows n keep large_row w.size

      pub mask_keep : {r : Refusal} → Err r ≡ done (cube_refusal n keep) → Err r ≡ done (mask_refusal n cube ids keep)
      mask_keep e = refused_here n keep large_row mask_behind_ids e

      pub mask_index : {t : Bool} → Whole n keep → t ≡ large_id cube ids → mask_refusal n cube ids keep ≡ pick t 10 0
      unfolding large_row lowest
      mask_index k e =
          mask_behind_ids ∙ taken_here n keep large_row k ∙ ap (λ x. pick x 10 0) (ap (λ m. large_id m ids) (sym w.long_is) ∙ sym e)

pub masks : (n cube : ℕ) (ids : List ℕ) (keep : ℕ) → mask_refusal n cube ids keep ≡ 0 → Masks n cube ids keep
unfolding mask_refusal
masks n cube ids keep e =
    let p = passed (mask_rows n cube ids keep) refl e in
    let l : length ids ≡ stickers n = eqb-true _ _ (not-false _ p.1.1.0) in
    record {
      cube_long = eqb-true _ _ (not-false _ p.1.0);
      ids_long = l;
      keep_long = eqb-true _ _ (not-false _ p.1.1.1.0);
      small = λ j h. leb-false _ _ (any_none (λ i. leb (stickers n) i) ids p.1.1.1.1.0 j (omega arith));
    }

-- a sticker's letter under a mask
abbrev pub mask_at : List ℕ → List ℕ → List ℕ → ℕ → ℕ
mask_at cube ids keep j = pick (eqb (get_or keep (get_or ids j 0) 0) 0) letter_x (get_or cube j 0)

pub mask_put : (n : ℕ) (ids keep : List ℕ) {l₀ l : List ℕ} {j : ℕ} → Changing (mask_at l₀ ids keep) l₀ l j → length l₀ ≤ j
    → length l₀ ≡ stickers n → l ≡ masked n l₀ ids keep
unfolding masked
mask_put n ids keep {l₀} c h e = fill_all c.filling (omega (arith, c.filling.long)) ∙ ap (λ m. tabulate m (mask_at l₀ ids keep)) e

-- a face shows one byte exactly if each byte but the first is the one before it
neighbours : (x : ℕ) (ys : List ℕ) → pointwise eqb ys (take (length ys) (x ∷ ys)) ≡ all (λ b. eqb b x) ys
unfolding all
neighbours x [] = refl
neighbours x (y ∷ zs) =
    bool_cases (eqb y x)
    (λ t. rw t (neighbours y zs ∙ ap (λ (k : ℕ). all (λ b. eqb b k) zs) (eqb-true y x t)))
    (λ t. rw t refl)

pub one_byte_rest : (xs : List ℕ) → 0 < length xs
    → pointwise eqb (take (length xs - 1) (drop 1 xs)) (take (length (take (length xs - 1) (drop 1 xs))) xs) ≡ one_byte xs
unfolding one_byte all
one_byte_rest [] h = absurd (omega arith)
one_byte_rest (x ∷ ys) h = rw (take_all (length (x ∷ ys) - 1) ys (omega arith), eq-eqb x x refl) (neighbours x ys)

pub one_byte_none : (xs : List ℕ) → length xs < 1 → true ≡ one_byte xs
unfolding one_byte all
one_byte_none [] h = refl
one_byte_none (x ∷ ys) h = absurd (omega arith)

-- a face is a part of its cube
pub record FacePart (n k long : ℕ) : Type 0 where
  pub whole_face_lem : k * (n * n) + n * n ≤ long
  pub small : long ≤ 64896

pub face_part : {n long : ℕ} (k : ℕ) → Whole n long → k < 6 → FacePart n k long
face_part {n} {long} k w h =
    let s = mul-le-mul_right (n * n) h in
    let e = suc-mul k (n * n) in
    let a = mul_assoc 6 n n in
    record { whole_face_lem = omega (arith, w.long_is); small = omega (arith, w.long_is, room n w.size.size) }

-- the k-th of the six is k, and the part that the code takes is its face
pub face_nth : (k : ℕ) → k < 6 → get_or (0 ∷ 1 ∷ 2 ∷ 3 ∷ 4 ∷ 5 ∷ []) k 0 ≡ k
unfolding up_from
face_nth k h = get_d_from 0 6 k h ∙ zero-add k

pub face_shows : (n k : ℕ) (cube : List ℕ) {b t : Bool} → k < 6 → b ≡ one_byte (take (k * (n * n) + n * n - k * (n * n)) (drop (k * (n * n)) cube))
    → b ≡ t → one_byte (face_stickers n (get_or (0 ∷ 1 ∷ 2 ∷ 3 ∷ 4 ∷ 5 ∷ []) k 0) cube) ≡ t
face_shows n k cube {b} {t} h e d =
    let s : n * n ≡ k * (n * n) + n * n - k * (n * n) = omega arith in
    ap (λ x. one_byte (face_stickers n x cube)) (face_nth k h) ∙ ap (λ x. one_byte (take x (drop (k * (n * n)) cube))) s ∙ sym e ∙ d

-- a slice that is filled place by place with what the solved cube shows
module _ {A : Type 0} {number : A → ℕ} {numbers : List A → List ℕ} {f : ℕ → ℕ} {l₀ : List A} (laws : Pointwise number numbers) where
  pub show_more : {l : List A} {j : ℕ} {x : A} → Filling f (numbers l₀) (numbers l) j → j < length l₀ → number x ≡ f j
      → Filling f (numbers l₀) (numbers (set l j x)) (j + 1)
  show_more {l} {j} {x} g h e =
      subst (λ (k : List ℕ). Filling f (numbers l₀) k (j + 1)) (sym (laws.written l j x)) (fill_more g (omega (arith, g.long, laws.long l₀)) e)

  pub show_all : {l : List A} {j : ℕ} (n : ℕ) → Filling f (numbers l₀) (numbers l) j → length l₀ ≤ j → length l₀ ≡ stickers n
      → numbers l ≡ tabulate (stickers n) f
  show_all {l} {j} n g h e = fill_all g (omega (arith, g.long, laws.long l₀)) ∙ ap (λ m. tabulate m f) (laws.long l₀ ∙ e)

-- what the library's tests of a whole list find
pub any_is : (p : ℕ → Bool) (xs : List ℕ) → list_any p xs ≡ any p xs
unfolding any
any_is p [] = refl
any_is p (x ∷ xs) = bool_cases (p x) (λ t. rw t) (λ t. rw t (any_is p xs))

pub all_is : (p : ℕ → Bool) (xs : List ℕ) → list_all p xs ≡ all p xs
unfolding all
all_is p [] = refl
all_is p (x ∷ xs) = bool_cases (p x) (λ t. rw t (all_is p xs)) (λ t. rw t)
