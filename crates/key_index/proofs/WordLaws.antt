-- Laws of a key's hash and of where its run begins.
use Prim.Native.Nat.{ℕ, zero, suc, ◌+◌, ◌-◌, ◌*◌, ◌/◌, ◌≤◌, ◌<◌}
use mathlib.Core.Path.{◌≡◌, refl, ap, ◌∙◌}
use mathlib.Core.List.{List}
use native.Mathlib.Nat.{mul-le-mul_right}
use native.Mathlib.Numerals.{add-one}
use native.Mathlib.Omega.{arith}
use lib.ListN.{length}
use Rattle.table.specs.Inner.{word_of}
use Rattle.key_index.specs.InnerIndex.{run_length, classes, mixed, hash_up, hash_of, run_start_of, run_start}

-- the hash goes on by a word
pub hash_none : (key : List ℕ) → 0 ≡ hash_up key 0
unfolding hash_up
hash_none key = refl

pub hash_more : (key : List ℕ) (k : ℕ) {h x r : ℕ} → h ≡ hash_up key k → x ≡ word_of key (6 * k) → r ≡ mixed h x → r ≡ hash_up key (k + 1)
unfolding hash_up
hash_more key k {h} {x} {r} e f g = rw (add-one k) (rw (← e, ← f) g)

pub hash_all : (key : List ℕ) (k : ℕ) {h : ℕ} → h ≡ hash_up key k → k ≡ length key / 6 → h ≡ hash_of key
unfolding hash_of
hash_all key k e f = e ∙ ap (hash_up key) f

hash_most : (key : List ℕ) (k : ℕ) → hash_up key k < 4294967296
unfolding hash_up
hash_most key zero = omega arith
hash_most key (suc k) = omega arith

-- where the run of a key that was hashed begins, and that the run fits
pub place_told : (slots : ℕ) (s : List ℕ) {h at : ℕ} → h ≡ hash_of s → at ≡ run_start_of slots h → at ≡ run_start slots s
unfolding run_start
place_told slots s e f = f ∙ ap (run_start_of slots) e

pub place_product : (slots h : ℕ) → h < 4294967296 → h / classes * (slots - run_length) ≤ 4194304 * (slots - run_length)
place_product slots h lt = mul-le-mul_right (slots - run_length) (omega arith)

pub place_most : (slots h : ℕ) → h < 4294967296 → run_length < slots → run_start_of slots h + run_length ≤ slots
unfolding run_start_of
place_most slots h lt some = omega (arith, place_product slots h lt)

pub run_fits : (slots : ℕ) (s : List ℕ) → run_length < slots → run_start slots s + run_length ≤ slots
unfolding run_start hash_of
run_fits slots s some = place_most slots (hash_of s) (hash_most s (length s / 6)) some
