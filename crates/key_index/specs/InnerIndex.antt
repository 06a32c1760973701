-- The index of a table's keys: slots that hold an entry's number plus 1, each in the run of slots that its key's hash gives.
use Rattle.std.specs.Prelude.{ℕ, zero, suc, ◌+◌, ◌-◌, ◌*◌, ◌/◌, ◌%◌, ◌≤◌, ◌<◌, ◌≡◌, List, length, get_or, replicate}
use Rattle.table.specs.Entries.{entry_key}
use Rattle.table.specs.Inner.{word_of}
use Rattle.key_index.specs.declared.Classes.{Classes}

-- how many slots a run has, and how many classes there are
abbrev pub run_length : ℕ
run_length = 64

abbrev pub classes : ℕ
classes = 1024

-- a hash of a key, six bytes at a time; only speed hangs on its values
abbrev pub mixed : ℕ → ℕ → ℕ
mixed h x = (h + x % 4294967296 + x / 4294967296 * 40503) % 4294967296 * 2654435761 / 65536 % 4294967296

unfoldable pub hash_up : List ℕ → ℕ → ℕ
hash_up key zero = 0
hash_up key (suc k) = mixed (hash_up key k) (word_of key (6 * k))

unfoldable pub hash_of : List ℕ → ℕ
hash_of key = hash_up key (length key / 6)

-- where the run of a hash begins among so many slots
unfoldable pub run_start_of : ℕ → ℕ → ℕ
run_start_of slots h = h / classes * (slots - run_length) / 4194304

-- the class of a key, and where its run begins
unfoldable pub class_of : List ℕ → ℕ
class_of key = hash_of key % classes

unfoldable pub run_start : ℕ → List ℕ → ℕ
run_start slots key = run_start_of slots (hash_of key)

-- a key is of the classes
abbrev pub OfClasses : Classes → List ℕ → Type 0
OfClasses k s = (k.low ≤ class_of s) × (class_of s < k.high)

-- an entry in its run: no slot of the run before its own is empty
pub record Filed (index s : List ℕ) (i : ℕ) : Type 0 where
  pub slot : ℕ
  pub from : run_start (length index) s ≤ slot
  pub near : slot < run_start (length index) s + run_length
  pub taken : (j : ℕ) → run_start (length index) s ≤ j → j < slot → get_or index j 0 ≡ 0 → ⊥
  pub is : get_or index slot 0 ≡ i + 1

-- the index holds the first `count` entries of the classes
pub record Indexed (m count : ℕ) (t index : List ℕ) (k : Classes) : Type 0 where
  pub some : run_length < length index
  pub few : length index < 4294967296
  pub within : (j : ℕ) → get_or index j 0 ≤ count
  pub kept : (i : ℕ) → i < count → OfClasses k (entry_key m t i) → Filed index (entry_key m t i) i

-- an empty slot of a run whose earlier slots are taken
pub record Free (index : List ℕ) (at slot : ℕ) : Type 0 where
  pub from : at ≤ slot
  pub near : slot < at + run_length
  pub empty : get_or index slot 0 ≡ 0
  pub taken : (j : ℕ) → at ≤ j → j < slot → get_or index j 0 ≡ 0 → ⊥

-- an index to file in
pub record Empty (index : List ℕ) : Type 0 where
  pub clear : index ≡ replicate (length index) 0
  pub some : run_length < length index
  pub few : length index < 4294967296
