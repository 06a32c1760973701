-- A table: entries of a key, the m bytes of a cube, and a number, one byte; and what the search reads in it.
use Rattle.std.specs.Prelude.{ℕ, zero, suc, ◌+◌, ◌/◌, ◌%◌, Bool, true, ◌&&◌, List, [], ◌∷◌, ◌++◌, eqb, length, take, drop, get_or}
use Rattle.ground.specs.Choice.{pick}
use Rattle.table.specs.Order.{order_of}
use Rattle.std.specs.Ordering.{is_eq, is_lt}

-- an entry is the bytes of a cube and one byte, its number
pub record Entry : Type 0 where
  pub key : List ℕ
  pub number : ℕ

abbrev pub numbered : List ℕ → ℕ → Entry
numbered s d = record { key = s; number = d }

-- entries as bytes, one after the other
unfoldable pub bytes : List Entry → List ℕ
bytes [] = []
bytes (x ∷ xs) = x.key ++ (x.number ∷ bytes xs)

-- how many whole entries fit a slice, the first `count` that it holds, and all of them
abbrev pub entry_count : ℕ → List ℕ → ℕ
entry_count m table = length table / (m + 1)

unfoldable pub first_entries : ℕ → ℕ → List ℕ → List Entry
first_entries m zero table = []
first_entries m (suc count) table = numbered (take m table) (get_or table m 0) ∷ first_entries m count (drop (m + 1) table)

abbrev pub entries_of : ℕ → List ℕ → List Entry
entries_of m table = first_entries m (entry_count m table) table

-- the number of the first entry whose key is s, or d where there is none
unfoldable pub number_for : List ℕ → ℕ → List Entry → ℕ
number_for s d [] = d
number_for s d (x ∷ xs) = pick (is_eq (order_of x.key s)) x.number (number_for s d xs)

-- the search reads an entry's number, or depth + 1 for an absent state
unfoldable pub state_number : ℕ → List ℕ → ℕ → List ℕ → ℕ
state_number m table depth s = number_for s (depth + 1) (entries_of m table)

-- each key is less than the next
unfoldable pub keys_rise : List Entry → Bool
keys_rise [] = true
keys_rise (x ∷ []) = true
keys_rise (x ∷ y ∷ ys) = is_lt (order_of x.key y.key) && keys_rise (y ∷ ys)

-- 8: a table isn't whole entries with strictly rising keys
unfoldable pub well_formed : ℕ → List ℕ → Bool
well_formed m table = eqb (length table % (m + 1)) 0 && keys_rise (entries_of m table)
