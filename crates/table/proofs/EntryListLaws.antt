-- Laws of the entries that a slice holds: by place, and as bytes.
use Prim.Native.Nat.{ℕ, zero, suc, ◌+◌, ◌*◌, ◌≤◌, ◌<◌}
use mathlib.Core.Path.{◌≡◌, refl, sym, ap, ap₂, ◌∙◌}
use mathlib.Core.List.{List, [], ◌∷◌, ◌++◌, append_assoc}
use native.Mathlib.Nat.{suc-mul, zero-mul, le-div_iff_mul-le}
use native.Mathlib.Numerals.{add-one}
use native.Mathlib.Omega.{arith}
use lib.ListN.{length, take, drop, get_or, length-append, length-drop}
use lib.Seq.{take_at, drop_at, get_or_at, get_or-drop, drop-drop, split_at}
use Rattle.table.specs.Table.{Entry, numbered, bytes, entry_count, first_entries}
use Rattle.table.specs.Entries.{entry_key, entry_number}

-- the key and the number of the entry at a place of a list
abbrev pub no_entry : Entry
no_entry = numbered [] 0

abbrev pub key_in : List Entry → ℕ → List ℕ
key_in table i = (get_or table i no_entry).key

abbrev pub number_in : List Entry → ℕ → ℕ
number_in table i = (get_or table i no_entry).number

-- the first entries of a slice, by place
pub length_entries : (m count : ℕ) (t : List ℕ) → length (first_entries m count t) ≡ count
unfolding first_entries
length_entries m zero t = refl
length_entries m (suc count) t = ap suc (length_entries m count (drop (m + 1) t))

-- entry i + 1 is entry i of what follows the first
entry_on : (m i : ℕ) → m + 1 + i * (m + 1) ≡ suc i * (m + 1)
entry_on m i = omega (arith, suc-mul i (m + 1))

pub entries_key : (m count : ℕ) (t : List ℕ) (i : ℕ) → i < count → key_in (first_entries m count t) i ≡ entry_key m t i
unfolding first_entries
entries_key m zero t i h = absurd (omega arith)
entries_key m (suc count) t zero h = ap (λ (k : ℕ). take m (drop k t)) (sym (zero-mul (m + 1)))
entries_key m (suc count) t (suc i) h =
    entries_key m count (drop (m + 1) t) i (omega arith)
    ∙ ap (take m) (drop-drop (i * (m + 1)) (m + 1) t ∙ ap (λ (k : ℕ). drop k t) (entry_on m i))

pub entries_number : (m count : ℕ) (t : List ℕ) (i : ℕ) → i < count → number_in (first_entries m count t) i ≡ entry_number m t i
unfolding first_entries
entries_number m zero t i h = absurd (omega arith)
entries_number m (suc count) t zero h =
    let e : m ≡ 0 * (m + 1) + m = omega (arith, zero-mul (m + 1)) in
    ap (λ (k : ℕ). get_or t k 0) e
entries_number m (suc count) t (suc i) h =
    entries_number m count (drop (m + 1) t) i (omega arith)
    ∙ get_or-drop (m + 1) t (i * (m + 1) + m) 0
    ∙ ap (λ (k : ℕ). get_or t k 0) (omega (arith, entry_on m i))

-- as bytes: each key has m of them
unfoldable pub Long : ℕ → List Entry → Type 0
Long m [] = Unit {0}
Long m (x ∷ xs) = (length x.key ≡ m) × Long m xs

pub length-bytes : (m : ℕ) (table : List Entry) → Long m table → length (bytes table) ≡ length table * (m + 1)
unfolding bytes Long
length-bytes m [] l = sym (zero-mul (m + 1))
length-bytes m (x ∷ xs) l =
    length-append x.key (x.number ∷ bytes xs)
    ∙ omega (arith, l.0, length-bytes m xs l.1, suc-mul (length xs) (m + 1))

pub bytes_of_entries : (m count : ℕ) (t : List ℕ) → count * (m + 1) ≤ length t → bytes (first_entries m count t) ++ drop (count * (m + 1)) t ≡ t
unfolding first_entries bytes
bytes_of_entries m zero t h = ap (λ (k : ℕ). drop k t) (zero-mul (m + 1))
bytes_of_entries m (suc count) t h =
    append_assoc (take m t) _ _
    ∙ ap (λ (l : List ℕ). take m t ++ (get_or t m 0 ∷ l))
    (ap (λ (l : List ℕ). bytes (first_entries m count (drop (m + 1) t)) ++ l)
    (ap (λ (k : ℕ). drop k t) (sym (entry_on m count)) ∙ sym (drop-drop (count * (m + 1)) (m + 1) t))
    ∙ bytes_of_entries m count (drop (m + 1) t) (omega (arith, suc-mul count (m + 1), length-drop (m + 1) t)))
    ∙ ap (λ (k : ℕ). take m t ++ (get_or t m 0 ∷ drop k t)) (add-one m)
    ∙ sym (split_at t m 0 (omega (arith, suc-mul count (m + 1))))

pub entries_of-bytes : (m : ℕ) (table : List Entry) (r : List ℕ) → Long m table → first_entries m (length table) (bytes table ++ r) ≡ table
unfolding first_entries bytes Long
entries_of-bytes m [] r l = refl
entries_of-bytes m (x ∷ xs) r l =
    let t : (x.key ++ (x.number ∷ bytes xs)) ++ r ≡ x.key ++ (x.number ∷ (bytes xs ++ r)) = append_assoc x.key (x.number ∷ bytes xs) r in
    ap (first_entries m (suc (length xs))) t
    ∙ ap₂ ◌∷◌
    (ap₂ numbered (take_at x.key (x.number ∷ (bytes xs ++ r)) m l.0) (get_or_at x.key x.number (bytes xs ++ r) 0 m l.0))
    (ap (first_entries m (length xs)) (past x xs r l.0) ∙ entries_of-bytes m xs r l.1)
  where
    past : (x : Entry) (xs : List Entry) (r : List ℕ) → length x.key ≡ m → drop (m + 1) (x.key ++ (x.number ∷ (bytes xs ++ r))) ≡ bytes xs ++ r
    past x xs r e =
        sym (drop-drop 1 m (x.key ++ (x.number ∷ (bytes xs ++ r)))) ∙ ap (drop 1) (drop_at x.key (x.number ∷ (bytes xs ++ r)) m e)

-- entries that fit have their bytes in the slice
pub room_bytes : (m count : ℕ) (t : List ℕ) → count ≤ entry_count m t → count * (m + 1) ≤ length t
room_bytes m count t h = (le-div_iff_mul-le {k = m + 1} {x = count} (omega arith)).0 h
