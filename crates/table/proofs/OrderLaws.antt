-- The order of keys is a strict order, and a walk along two keys finds it.
use mathlib.Core.Path.{◌≡◌, refl, sym, ap, ap₂, ◌∙◌}
use mathlib.Core.List.{List}
use mathlib.Core.Bool.{true, false, true≢false}
use Rattle.std.specs.Cmp.{unsigned_ties}
use Rattle.std.specs.Cmp.Lexicographic.{lists_ties}
use Rattle.std.proofs.lemmas.Cmp.{tied_itself, nat_list_cmp_total}
use lib.Pointwise.{bytes_decides}
use Prim.Native.Nat.{ℕ, ◌+◌, ◌≤◌, ◌<◌}
use native.Mathlib.Numerals.{add-one}
use native.Mathlib.Omega.{arith}
use lib.ListN.{length, drop, get_or, drop_of_length-le}
use lib.Seq.{drop-cons}
use borrow.Author.Tests.{lt-ltb, le-ltb, eq-eqb}
use Rattle.std.specs.declared.cmp.Ordering.{Ordering}
use Rattle.std.specs.declared.cmp.Ordering.TheVariants.{Less, Equal, Greater}
use Rattle.table.specs.Order.{order_of}
use Rattle.std.specs.Ordering.{is_eq, is_lt, nat_cmp, ordering_then, ordering_reverse}

-- an order is one of three
pub order_split {ℓ} : {A : Type ℓ} (o : Ordering) → (o ≡ Less → A) → (o ≡ Equal → A) → (o ≡ Greater → A) → A
order_split Less f g h = f refl
order_split Equal f g h = g refl
order_split Greater f g h = h refl

-- the order's laws are std's of lists of numbers
pub same_eq : (x y : List ℕ) → order_of x y ≡ Equal → x ≡ y
unfolding order_of
same_eq x y e = (bytes_decides x y).0 (lists_ties nat_cmp unsigned_ties x y ∙ ap is_eq e)

pub eq_same : (x : List ℕ) → order_of x x ≡ Equal
unfolding order_of
eq_same x = tied_itself nat_list_cmp_total x

pub more_flip : (x y : List ℕ) → order_of x y ≡ Greater → order_of y x ≡ Less
unfolding order_of
more_flip x y e = nat_list_cmp_total.antisymm y x ∙ ap ordering_reverse e

pub less_trans : (x y z : List ℕ) → order_of x y ≡ Less → order_of y z ≡ Less → order_of x z ≡ Less
unfolding order_of
less_trans = nat_list_cmp_total.trans

pub less_irrefl : (x : List ℕ) → order_of x x ≡ Less → ⊥
less_irrefl x e = let z : ◌≡◌ {A = Ordering} Less Equal = sym e ∙ eq_same x in let q : ◌≡◌ {A = ℕ} 0 1 = cc in omega arith

-- which order a test says
pub is_less_lem : (o : Ordering) → is_lt o ≡ true → o ≡ Less
is_less_lem Less e = refl
is_less_lem Equal e = absurd (true≢false (sym e))
is_less_lem Greater e = absurd (true≢false (sym e))

-- a key that is not the same, either way round
pub less_not_same : (x y : List ℕ) → order_of x y ≡ Less → is_eq (order_of x y) ≡ false
less_not_same x y h = rw h

-- two bytes decide how keys stand, or leave it to what follows them
unfoldable pub decided : ℕ → ℕ → Ordering → Ordering
decided v w rest = ordering_then (nat_cmp v w) rest

module _ {v w : ℕ} (rest : Ordering) where
  pub decided_less : v < w → decided v w rest ≡ Less
  unfolding decided
  decided_less lt = rw (lt-ltb v w lt)

  pub decided-next : w ≤ v → v ≤ w → decided v w rest ≡ rest
  unfolding decided
  decided-next le ge = rw (le-ltb v w le, eq-eqb v w (omega arith))

-- a walk along two keys of one length that comes to place j: the bytes there decide, or there is no byte left
module _ (x y : List ℕ) (e : length x ≡ length y) where
  pub byte_step : (j : ℕ) → j < length x
      → order_of (drop j x) (drop j y) ≡ decided (get_or x j 0) (get_or y j 0) (order_of (drop (j + 1) x) (drop (j + 1) y))
  unfolding order_of decided
  byte_step j h = ap₂ order_of (drop-cons x j 0 h) (drop-cons y j 0 (omega arith)) ∙ rw (add-one j)

  pub byte_end : (j : ℕ) → length x ≤ j → order_of (drop j x) (drop j y) ≡ Equal
  unfolding order_of
  byte_end j h = ap₂ order_of (drop_of_length-le x h) (drop_of_length-le y {i = j} (omega arith))

-- the order that was found of keys that were read
pub order_told : {x x' y y' : List ℕ} {o : Ordering} → x ≡ x' → y ≡ y' → o ≡ order_of x y → order_of x' y' ≡ o
order_told e d h = sym (h ∙ ap₂ order_of e d)
