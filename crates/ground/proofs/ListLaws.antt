-- Laws of lists that are given place by place, and of members by place.
use Prim.Native.Nat.{ℕ, zero, suc, ◌+◌, ◌<◌, ◌≤◌}
use mathlib.Core.Path.{◌≡◌, refl, ap, sym, ◌∙◌}
use mathlib.Core.List.{List, [], ◌∷◌, Memᴰ}
use native.Mathlib.Omega.{arith}
use lib.ListN.{length, get_or, take, drop, length-drop, take-append-drop}
use lib.Seq.{ext_get_or, length-take-le, take-append-le, drop-append-le}
use Rattle.ground.specs.Lists.{tabulate}

pub length-tabulate : (m : ℕ) (f : ℕ → ℕ) → length (tabulate m f) ≡ m
unfolding tabulate
length-tabulate zero f = refl
length-tabulate (suc m) f = ap suc (length-tabulate m (λ i. f (suc i)))

pub get_d_tabulate : (m : ℕ) (f : ℕ → ℕ) (i : ℕ) → i < m → get_or (tabulate m f) i 0 ≡ f i
unfolding tabulate
get_d_tabulate zero f i h = absurd (omega arith)
get_d_tabulate (suc m) f zero h = refl
get_d_tabulate (suc m) f (suc i) h = get_d_tabulate m (λ k. f (suc k)) i (omega arith)

-- a list is what its places say
pub tabulated : (f : ℕ → ℕ) (l : List ℕ) (m : ℕ) → length l ≡ m → ((i : ℕ) → i < m → get_or l i 0 ≡ f i) → l ≡ tabulate m f
tabulated f l m e h =
    ext_get_or 0 l (tabulate m f) (e ∙ sym (length-tabulate m f))
    (λ i k. h i (omega arith) ∙ sym (get_d_tabulate m f i (omega arith)))

module _ {A : Type 0} where
  -- what stands at a place is a member
  pub member_at : (l : List A) (i : ℕ) (d : A) → i < length l → Memᴰ (get_or l i d) l
  member_at [] i d h = absurd (omega arith)
  member_at (x ∷ xs) zero d h = Memᴰ.head refl
  member_at (x ∷ xs) (suc i) d h = Memᴰ.tail (member_at xs i d (omega arith))

  -- and a member stands at a place
  pub record Placed (x : A) (l : List A) (d : A) : Type 0 where
    pub at : ℕ
    pub within : at < length l
    pub is : get_or l at d ≡ x

  pub member_place : {x : A} {l : List A} (d : A) → Memᴰ x l → Placed x l d
  member_place d (Memᴰ.head e) = record { at = 0; within = omega arith; is = sym e }
  member_place d (Memᴰ.tail m) =
      let p = member_place d m in record { at = suc p.at; within = omega (arith, p.within); is = p.is }

-- a part of a list that lies in its first s elements
pub part_front : (l : List ℕ) (j n s : ℕ) → s ≤ length l → j + n ≤ s → take n (drop j l) ≡ take n (drop j (take s l))
part_front l j n s h g =
    let head : length (take s l) ≡ s = length-take-le s l h in
    ap (λ k. take n (drop j k)) (sym (take-append-drop s l)) ∙ ap (take n) (drop-append-le j (take s l) (drop s l) (omega arith))
    ∙ take-append-le n (drop j (take s l)) (drop s l) (omega (arith, length-drop j (take s l)))
