-- Entries by their places in a slice.
use Rattle.std.specs.Prelude.{ℕ, ◌+◌, ◌*◌, ◌<◌, ◌≡◌, List, take, drop, get_or}
use Rattle.std.specs.declared.cmp.Ordering.TheVariants.{Less}
use Rattle.table.specs.Order.{order_of}

-- the key and the number of entry i
abbrev pub entry_key : ℕ → List ℕ → ℕ → List ℕ
entry_key m table i = take m (drop (i * (m + 1)) table)

abbrev pub entry_number : ℕ → List ℕ → ℕ → ℕ
entry_number m table i = get_or table (i * (m + 1) + m) 0

-- s stands among n keys
abbrev pub Present : (ℕ → List ℕ) → ℕ → List ℕ → Type 0
Present key n s = (i : ℕ) × (i < n) × (key i ≡ s)

-- each of n keys is less than every later one
unfoldable pub Rising : (ℕ → List ℕ) → ℕ → Type 0
Rising key n = (i j : ℕ) → i < j → j < n → order_of (key i) (key j) ≡ Less
