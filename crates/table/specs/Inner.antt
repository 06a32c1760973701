-- Inner contracts: what the functions over a table ask of their arguments, and how entries are read and written by their places.
use Rattle.std.specs.Prelude.{ℕ, ◌+◌, ◌*◌, ◌≤◌, ◌<◌, ◌≡◌, true, List, ◌++◌, length, take, drop, get_or}
use Rattle.table.specs.Table.{well_formed}

-- two, four and six bytes from j on as a number, the first the highest
abbrev pub two_of : List ℕ → ℕ → ℕ
two_of s j = 256 * get_or s j 0 + get_or s (j + 1) 0

abbrev pub four_of : List ℕ → ℕ → ℕ
four_of s j = 256 * (256 * (256 * get_or s j 0 + get_or s (j + 1) 0) + get_or s (j + 2) 0) + get_or s (j + 3) 0

abbrev pub word_of : List ℕ → ℕ → ℕ
word_of s j =
    256 * (256 * (256 * (256 * (256 * get_or s j 0 + get_or s (j + 1) 0) + get_or s (j + 2) 0) + get_or s (j + 3) 0) + get_or s (j + 4) 0) + get_or s (j + 5) 0

-- the length of a cube's key
pub record KeyLength (m : ℕ) : Type 0 where
  pub short : m < 1000

-- a key can be looked up in a table of that depth
pub record Lookup (m : ℕ) (table : List ℕ) (depth : ℕ) (key : List ℕ) : Type 0 where
  pub whole : KeyLength m
  pub shallow : depth ≤ 20
  pub long : length key ≡ m
  pub formed : well_formed m table ≡ true

-- the bytes of entry i, and the slice with other bytes for it
abbrev pub entry_at : ℕ → List ℕ → ℕ → List ℕ
entry_at m t i = take (m + 1) (drop (i * (m + 1)) t)

abbrev pub with_entry : ℕ → ℕ → List ℕ → List ℕ → List ℕ
with_entry m i e t = take (i * (m + 1)) t ++ (e ++ drop (i * (m + 1) + (m + 1)) t)

-- of n keys no two are the same
abbrev pub Distinct : (ℕ → List ℕ) → ℕ → Type 0
Distinct key n = (i j : ℕ) → i < j → j < n → key i ≡ key j → ⊥
