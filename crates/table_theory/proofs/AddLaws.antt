-- Laws of adding entries: what is there stays, nothing but the entry comes, and keys that rise go on rising.
use Prim.Native.Nat.{ℕ, zero, suc, ◌<◌}
use mathlib.Core.Path.{◌≡◌, sym, subst}
use mathlib.Core.Logic.{◌⊎◌, inl, inr, ⊎_elim}
use mathlib.Core.List.Memᴰ
use mathlib.Core.List.{List, [], ◌∷◌, Memᴰ}
use native.Mathlib.Omega.{arith}
use lib.ListN.{length, get_or}
use Rattle.ground.proofs.ListLaws.{member_at}
use Rattle.std.specs.declared.cmp.Ordering.TheVariants.{Less, Equal}
use Rattle.table.specs.Order.{order_of}
use Rattle.table.proofs.OrderLaws.{order_split, more_flip, less_trans}
use Rattle.table.specs.Entries.{Rising}
use Rattle.table.specs.Table.{Entry, numbered}
use Rattle.table.proofs.EntryListLaws.{no_entry, key_in}
use Rattle.table_theory.specs.Built.{add, add_all}

-- a key is less than each key of the entries; each key is less than all later ones
abbrev pub LessThanAll : List ℕ → List Entry → Type 0
LessThanAll s table = (y : Entry) → Memᴰ y table → order_of s y.key ≡ Less

unfoldable pub Sorted : List Entry → Type 0
Sorted [] = Unit {0}
Sorted (y ∷ ys) = LessThanAll y.key ys × Sorted ys

-- one entry on
module _ (x y : Entry) (ys : List Entry) where
  pub add_less : order_of y.key x.key ≡ Less → add x (y ∷ ys) ≡ y ∷ add x ys
  unfolding add
  add_less e = rw e

  pub add_same : order_of y.key x.key ≡ Equal → add x (y ∷ ys) ≡ y ∷ ys
  unfolding add
  add_same e = rw e

-- what is there stays
pub add_old : (x : Entry) (table : List Entry) {z : Entry} → Memᴰ z table → Memᴰ z (add x table)
unfolding add
add_old x [] {z} m = elim m [ ]
add_old x (y ∷ ys) {z} m =
    order_split (order_of y.key x.key)
    (λ e. rw e (⊎_elim (λ h. Memᴰ.head h) (λ n. Memᴰ.tail (add_old x ys n)) (Memᴰ.cases_cons m)))
    (λ e. rw e m)
    (λ e. rw e (Memᴰ.tail m))

-- nothing else comes
pub add_cases : (x : Entry) (table : List Entry) {z : Entry} → Memᴰ z (add x table) → (z ≡ x) ⊎ Memᴰ z table
unfolding add
add_cases x [] m = ⊎_elim (λ h. inl h) (λ n. inr n) (Memᴰ.cases_cons m)
add_cases x (y ∷ ys) {z} m =
    order_split (order_of y.key x.key)
    (λ e. ⊎_elim (λ h. inr (Memᴰ.head h)) (λ n. ⊎_elim (λ h. inl h) (λ k. inr (Memᴰ.tail k)) (add_cases x ys n)) (Memᴰ.cases_cons (rw e at m)))
    (λ e. inr (rw e at m))
    (λ e. Memᴰ.cases_cons (rw e at m))

pub add_sorted : (x : Entry) (table : List Entry) → Sorted table → Sorted (add x table)
unfolding Sorted add
add_sorted x [] s = ((λ y m. absurd (Memᴰ.not-nil m)), tt)
add_sorted x (y ∷ ys) s =
    order_split (order_of y.key x.key)
    (λ e. rw e ((λ z m. ⊎_elim (λ h. subst (λ (w : Entry). order_of y.key w.key ≡ Less) (sym h) e) (λ n. s.0 z n) (add_cases x ys m)), add_sorted x ys s.1))
    (λ e. rw e s)
    (λ e.
    let lt = more_flip y.key x.key e in
    rw e ((λ z m. ⊎_elim (λ h. subst (λ (w : Entry). order_of x.key w.key ≡ Less) (sym h) lt) (λ n. less_trans x.key y.key z.key lt (s.0 z n)) (Memᴰ.cases_cons m)), s))

-- an earlier key of sorted entries is less than a later one
pub sorted_at : (table : List Entry) (i j : ℕ) → Sorted table → i < j → j < length table → order_of (key_in table i) (key_in table j) ≡ Less
unfolding Sorted
sorted_at [] i j s lt h = absurd (omega arith)
sorted_at (y ∷ ys) i zero s lt h = absurd (omega arith)
sorted_at (y ∷ ys) zero (suc j) s lt h = s.0 (get_or ys j no_entry) (member_at ys j no_entry (omega arith))
sorted_at (y ∷ ys) (suc i) (suc j) s lt h = sorted_at ys i j s.1 (omega arith) (omega arith)

pub sorted_rising : (table : List Entry) → Sorted table → Rising (key_in table) (length table)
unfolding Rising
sorted_rising table s i j lt h = sorted_at table i j s lt h

-- the same of a list of cubes
pub all_sorted : (d : ℕ) (ss : List (List ℕ)) (table : List Entry) → Sorted table → Sorted (add_all d ss table)
unfolding add_all
all_sorted d [] table h = h
all_sorted d (s ∷ ss) table h = all_sorted d ss (add (numbered s d) table) (add_sorted (numbered s d) table h)
