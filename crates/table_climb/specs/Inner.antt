-- Inner contracts of climbing: where building stands, and what climbing from level to level comes to.
use Rattle.std.specs.Prelude.{ℕ, ◌+◌, ◌/◌, ◌≤◌, ◌<◌, ◌≡◌, true, Option, Some, None, Result, Ok, Err, List, length}
use Rattle.generic_cube.specs.Sizes.{stickers}
use Rattle.table.specs.Entries.{entry_key, entry_number, Present}
use Rattle.table.specs.Inner.{Distinct}
use Rattle.table.specs.Table.{entry_count}
use Rattle.search_theory.specs.Levels.{ReachIn, Least, Exact}
use Rattle.table_level.specs.declared.Stage.{Stage}
use Rattle.table_climb.specs.declared.Stop.{Stop}
use Rattle.table_climb.specs.declared.Stop.TheVariants.{Outgrown, Full}
use Rattle.table_theory.specs.Built.{table_of}
use Rattle.search_theory.specs.CubeSearch.{moved_by}
use Rattle.table_theory.specs.Exact.{Start}
use Rattle.table_level.specs.Inner.{Stayed}

-- building stands at a stage: each entry has its least count, each state with a lower one than the level's is there, and the entries of a
-- level stand together
pub record Staged (n : ℕ) (starts moves : List ℕ) (depth : ℕ) (t : List ℕ) (stage : Stage) : Type 0 where
  pub room : stage.count ≤ entry_count (stickers n) t
  pub within : stage.number ≤ depth + 1
  pub begun : stage.base ≤ stage.count
  pub ended : depth < stage.number → stage.base ≡ stage.count
  pub first : stage.number ≡ 0 → (stage.from ≡ 0) × (stage.base ≡ 0) × (stage.last ≡ length starts / stickers n)
  pub later : (stage.number ≡ 0 → ⊥) → stage.last ≡ stage.base
  pub distinct : Distinct (entry_key (stickers n) t) stage.count
  pub right : (i : ℕ) → i < stage.count → Least (moved_by n) moves (Start n starts) (entry_number (stickers n) t i) (entry_key (stickers n) t i)
  pub whole : (j : ℕ) (s : List ℕ) → j < stage.number → ReachIn (moved_by n) moves (Start n starts) j s → Present (entry_key (stickers n) t) stage.count s
  pub old : (i : ℕ) → i < stage.from → i < stage.base → entry_number (stickers n) t i + 1 < stage.number
  pub front : (i : ℕ) → stage.from ≤ i → i < stage.base → entry_number (stickers n) t i + 1 ≡ stage.number
  pub new : (i : ℕ) → stage.base ≤ i → i < stage.count → entry_number (stickers n) t i ≡ stage.number

-- the first `count` entries are exactly the states within the depth, each with its least count, in any order
pub record Stood (n : ℕ) (starts moves : List ℕ) (depth : ℕ) (t : List ℕ) (count : ℕ) : Type 0 where
  pub room : count ≤ entry_count (stickers n) t
  pub distinct : Distinct (entry_key (stickers n) t) count
  pub exact : Exact (moved_by n) moves (Start n starts) depth (entry_key (stickers n) t) (entry_number (stickers n) t) count

-- the states outnumber the entries that fit
abbrev pub Outnumbered : ℕ → List ℕ → List ℕ → ℕ → List ℕ → Type 0
Outnumbered n starts moves depth t = entry_count (stickers n) t < length (table_of n starts moves depth)

-- what climbing comes to: with one index, and with all
abbrev pub RiseTold : ℕ → List ℕ → List ℕ → ℕ → List ℕ → ℕ → List ℕ → Result ℕ Stop → Type 0
RiseTold n starts moves depth t count t' (Ok c) = Stood n starts moves depth t' c × Stayed (stickers n) t count t' c
RiseTold n starts moves depth t count t' (Err (Outgrown s)) = Staged n starts moves depth t' s × Stayed (stickers n) t count t' s.count × (s.large ≡ true)
RiseTold n starts moves depth t count t' (Err Full) = Outnumbered n starts moves depth t

abbrev pub Raised : ℕ → List ℕ → List ℕ → ℕ → List ℕ → ℕ → List ℕ → Option ℕ → Type 0
Raised n starts moves depth t count t' (Some c) = Stood n starts moves depth t' c × Stayed (stickers n) t count t' c
Raised n starts moves depth t count t' None = Outnumbered n starts moves depth t
