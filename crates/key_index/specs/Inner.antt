-- Inner contracts: what the functions over an index ask and tell.
use Rattle.std.specs.Prelude.{ℕ, ◌+◌, ◌-◌, ◌≤◌, ◌<◌, ◌≡◌, true, false, Some, None, List, length, get_or}
use Rattle.table.specs.Entries.{entry_key, Present}
use Rattle.table.specs.Table.{entry_count}
use Rattle.key_index.specs.declared.Found.{Found}
use Rattle.key_index.specs.declared.Found.TheVariants.{Here, Absent, Lost, Outside}
use Rattle.key_index.specs.declared.Classes.{Classes}
use Rattle.key_index.specs.InnerIndex.{run_length, run_start, OfClasses, Indexed, Free}

-- a key is looked up from a slot on: every slot's entry can be read
pub record Probing (m : ℕ) (t s index : List ℕ) (at : ℕ) : Type 0 where
  pub long : length s ≡ m
  pub fits : at + run_length ≤ length index
  pub within : (j : ℕ) → get_or index j 0 ≤ entry_count m t

-- a slot of the run holds an entry with that key; and none up to a slot does
pub record Met (m : ℕ) (t s index : List ℕ) (at : ℕ) : Type 0 where
  pub slot : ℕ
  pub from : at ≤ slot
  pub near : slot < at + run_length
  pub some : 0 < get_or index slot 0
  pub is : entry_key m t (get_or index slot 0 - 1) ≡ s

abbrev pub Passed : ℕ → List ℕ → List ℕ → List ℕ → ℕ → ℕ → Type 0
Passed m t s index at slot = (j : ℕ) → at ≤ j → j < slot → entry_key m t (get_or index j 0 - 1) ≡ s → ⊥

abbrev pub Probed : ℕ → List ℕ → List ℕ → List ℕ → ℕ → Found → Type 0
Probed m t s index at Here = Met m t s index at
Probed m t s index at (Absent None) = ⊥
Probed m t s index at (Absent (Some p)) = Free index at p × Passed m t s index at p
Probed m t s index at Lost = Unit {0}
Probed m t s index at Outside = ⊥

-- a key is looked for among the first `count`, walking
pub record Scanning (m count : ℕ) (t s : List ℕ) : Type 0 where
  pub room : count ≤ entry_count m t
  pub long : length s ≡ m

-- filing the first `count` entries
pub record Filing (m count : ℕ) (t : List ℕ) : Type 0 where
  pub room : count ≤ entry_count m t
  pub few : count < 4294967295

-- a key is looked up among the first `count`: by the index, or plainly
pub record KeyAsked (m count : ℕ) (t s index : List ℕ) (k : Classes) : Type 0 where
  pub room : count ≤ entry_count m t
  pub long : length s ≡ m
  pub filed : k.plain ≡ false → Indexed m count t index k

-- what is found: an empty slot only if there is an index, and always then
abbrev pub Sought : ℕ → ℕ → List ℕ → List ℕ → List ℕ → Classes → Found → Type 0
Sought m count t s index k Here = Present (entry_key m t) count s
Sought m count t s index k (Absent None) = (Present (entry_key m t) count s → ⊥) × (k.plain ≡ true)
Sought m count t s index k (Absent (Some p)) = (Present (entry_key m t) count s → ⊥) × (k.plain ≡ false) × Free index (run_start (length index) s) p
Sought m count t s index k Lost = k.plain ≡ false
Sought m count t s index k Outside = OfClasses k s → ⊥
