-- The rule of a table, told without levels.
use Rattle.std.specs.Prelude.{ℕ, suc, ◌+◌, ◌*◌, ◌≤◌, ◌<◌, ◌≡◌, length, drop}
use mathlib.Core.List.{List, Memᴰ}
use Rattle.generic_cube.specs.Sizes.{stickers}
use Rattle.table.specs.Entries.{entry_key, entry_number, Rising}
use Rattle.table.specs.Table.{entry_count}
use Rattle.search_theory.specs.Levels.{ReachIn, Exact}
use Rattle.search_theory.specs.CubeSearch.{moved_by}
use Rattle.table_theory.specs.Built.{starts_of}

-- one of the starting cubes
abbrev pub Start : ℕ → List ℕ → List ℕ → Type 0
Start n starts s = Memᴰ s (starts_of n starts)

-- exactly j candidates lead from a starting cube to s, any of them, also the same kind twice
abbrev pub Reached : ℕ → List ℕ → List ℕ → ℕ → List ℕ → Type 0
Reached n starts moves j s = ReachIn (moved_by n) moves (Start n starts) j s

-- the buffer's first `count` entries are exactly the states reachable from a starting cube by at most `depth` candidates, each with the
-- least such count, in rising order; bytes after the used entries stay
pub record Exactly (n : ℕ) (starts moves : List ℕ) (depth : ℕ) (table table' : List ℕ) (count : ℕ) : Type 0 where
  pub room : count ≤ entry_count (stickers n) table
  pub rising : Rising (entry_key (stickers n) table') count
  pub exact : Exact (moved_by n) moves (Start n starts) depth (entry_key (stickers n) table') (entry_number (stickers n) table') count
  pub past : drop (count * (stickers n + 1)) table' ≡ drop (count * (stickers n + 1)) table
  pub long : length table' ≡ length table

-- more than `room` such states: one for each number up to `room`, rising
pub record Outnumber (n : ℕ) (starts moves : List ℕ) (depth room : ℕ) : Type 0 where
  pub state : ℕ → List ℕ
  pub rising : Rising state (suc room)
  pub count : ℕ → ℕ
  pub within : (i : ℕ) → i < suc room → count i ≤ depth
  pub reached : (i : ℕ) → i < suc room → Reached n starts moves (count i) (state i)
