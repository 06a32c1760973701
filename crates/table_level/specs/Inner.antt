-- Inner contracts of a level of the builder. Entries stand in the order in which they were found; a level adds to their end.
use Rattle.std.specs.Prelude.{ℕ, ◌+◌, ◌*◌, ◌/◌, ◌≤◌, ◌<◌, ◌≡◌, true, false, Option, Some, None, Result, Ok, Err, length, take, drop}
use mathlib.Core.List.{List, [], ◌∷◌, ◌++◌, Memᴰ}
use Rattle.generic_cube.specs.Sizes.{stickers}
use Rattle.generic_cube.specs.Code.{list_refusal}
use Rattle.table.specs.Entries.{entry_key, entry_number, Present}
use Rattle.table.specs.Inner.{Distinct}
use Rattle.table.specs.Table.{entry_count}
use Rattle.key_index.specs.declared.Classes.{Classes}
use Rattle.key_index.specs.InnerIndex.{run_length, classes, OfClasses, Indexed}
use Rattle.search_theory.specs.CubeSearch.{moved_by}
use Rattle.key_index.specs.declared.RunFull.{RunFull}
use Rattle.table_level.specs.declared.Halt.{Halt}
use Rattle.table_level.specs.declared.Halt.TheVariants.{Crowded, Full}
use Rattle.table_level.specs.declared.Stage.{Stage}

-- the bytes of an entry
abbrev pub entry_of : List ℕ → ℕ → List ℕ
entry_of s d = s ++ (d ∷ [])

-- what lies past the entries stayed, when `count` became `count'`
pub record Stayed (m : ℕ) (t : List ℕ) (count : ℕ) (t' : List ℕ) (count' : ℕ) : Type 0 where
  pub more : count ≤ count'
  pub long : length t' ≡ length t
  pub past : drop (count' * (m + 1)) t' ≡ drop (count' * (m + 1)) t

-- t, with `count` entries, became t' with `count'`: those, and others with the number e, no key twice
pub record Widened (m e : ℕ) (New : List ℕ → Type 0) (t : List ℕ) (count : ℕ) (t' : List ℕ) (count' : ℕ) : Type 0 where
  pub room : count' ≤ entry_count m t'
  pub stayed : Stayed m t count t' count'
  pub key : (i : ℕ) → i < count → entry_key m t' i ≡ entry_key m t i
  pub number : (i : ℕ) → i < count → entry_number m t' i ≡ entry_number m t i
  pub fresh : (i : ℕ) → count ≤ i → i < count' → (entry_number m t' i ≡ e) × New (entry_key m t' i)
  pub distinct : Distinct (entry_key m t) count → Distinct (entry_key m t') count'

-- and there is one more such state than fit
pub record Outgrown (m e : ℕ) (New : List ℕ → Type 0) (t : List ℕ) (count : ℕ) (t' : List ℕ) : Type 0 where
  pub widened : Widened m e New t count t' (entry_count m t)
  pub state : List ℕ
  pub new : New state
  pub absent : Present (entry_key m t') (entry_count m t) state → ⊥

-- the first `count` entries of the classes are filed, unless plainly; entry numbers fit a slot
pub record Tracking (m count : ℕ) (t index : List ℕ) (k : Classes) : Type 0 where
  pub room : count ≤ entry_count m t
  pub few : k.plain ≡ false → entry_count m t < 4294967295
  pub filed : k.plain ≡ false → Indexed m count t index k

-- a stretch of a level that came to its end with `c` entries, and what it did
pub record Going (m e : ℕ) (New : List ℕ → Type 0) (t : List ℕ) (count : ℕ) (k : Classes) (Done : List ℕ → ℕ → Type 0) (t' index' : List ℕ) (c : ℕ) : Type 0 where
  pub widened : Widened m e New t count t' c
  pub tracking : Tracking m c t' index' k
  pub done : Done t' c

-- all that can come of it
pub data Stretched (m e : ℕ) (New : List ℕ → Type 0) (t : List ℕ) (count : ℕ) (k : Classes) (Done : List ℕ → ℕ → Type 0) (t' index' : List ℕ) : Result ℕ Halt → Type 0 where
  went : {c : ℕ} → Going m e New t count k Done t' index' c → Stretched m e New t count k Done t' index' (Ok c)
  crowded : {c : ℕ} → Widened m e New t count t' c → k.plain ≡ false → Stretched m e New t count k Done t' index' (Err (Crowded c))
  full : Outgrown m e New t count t' → Stretched m e New t count k Done t' index' (Err Full)

-- a state of the classes is there
abbrev pub Entered : ℕ → Classes → List ℕ → List ℕ → ℕ → Type 0
Entered m k s t c = OfClasses k s → Present (entry_key m t) c s

-- moves that can be done on cubes of that size
pub record MovesTurn (n : ℕ) (moves : List ℕ) : Type 0 where
  pub some : 1 ≤ n
  pub size : n ≤ 7
  pub good : list_refusal n moves ≡ 0

-- building a table of that depth
pub record BuildReady (n depth : ℕ) (moves : List ℕ) : Type 0 where
  pub turning : MovesTurn n moves
  pub few : length moves ≤ 255
  pub shallow : depth ≤ 20

-- a code is one of the candidates
abbrev pub Candidate : ℕ → List ℕ → Type 0
Candidate code moves = Memᴰ code moves

-- a candidate leads from a cube to s
pub record LeadsTo (n : ℕ) (moves cube s : List ℕ) : Type 0 where
  pub move : ℕ
  pub candidate : Memᴰ move moves
  pub leads : s ≡ moved_by n move cube

-- each state to which a candidate leads is there
abbrev pub Fanned : ℕ → List ℕ → Classes → List ℕ → List ℕ → ℕ → Type 0
Fanned n moves k cube t c = (s : List ℕ) → LeadsTo n moves cube s → Entered (stickers n) k s t c

-- what level e is to enter for a place: the starting cube there, or what a candidate leads to from the entry there
abbrev pub start_at : ℕ → List ℕ → ℕ → List ℕ
start_at n starts at = take (stickers n) (drop (at * stickers n) starts)

pub record Due (n : ℕ) (starts moves : List ℕ) (e : ℕ) (t : List ℕ) (at : ℕ) (s : List ℕ) : Type 0 where
  pub first : e ≡ 0 → s ≡ start_at n starts at
  pub later : (e ≡ 0 → ⊥) → LeadsTo n moves (entry_key (stickers n) t at) s

-- the places before `last` are those of starting cubes, or of entries
pub record SourcesThere (n e : ℕ) (starts : List ℕ) (count last : ℕ) : Type 0 where
  pub first : e ≡ 0 → last ≤ length starts / stickers n
  pub later : (e ≡ 0 → ⊥) → last ≤ count

-- what is due for a place is there; and so for each place
abbrev pub SourceVisited : ℕ → List ℕ → List ℕ → Classes → ℕ → ℕ → List ℕ → ℕ → Type 0
SourceVisited n starts moves k e at t c = (s : List ℕ) → Due n starts moves e t at s → Entered (stickers n) k s t c

abbrev pub Swept : ℕ → List ℕ → List ℕ → Classes → ℕ → ℕ → ℕ → List ℕ → ℕ → Type 0
Swept n starts moves k e from last t c = (at : ℕ) → from ≤ at → at < last → SourceVisited n starts moves k e at t c

-- what is due for the places from `from` up to `last`; and at a stage
pub record Sourced (n : ℕ) (starts moves : List ℕ) (e from last : ℕ) (t s : List ℕ) : Type 0 where
  pub at : ℕ
  pub low : from ≤ at
  pub high : at < last
  pub due : Due n starts moves e t at s

abbrev pub Source : ℕ → List ℕ → List ℕ → Stage → List ℕ → List ℕ → Type 0
Source n starts moves stage t s = Sourced n starts moves stage.number stage.from stage.last t s

-- an index for a pass over some classes, or none
pub record Passing (m count : ℕ) (t : List ℕ) (size : ℕ) (k : Classes) : Type 0 where
  pub room : count ≤ entry_count m t
  pub slots : run_length < size
  pub size_few : size < 4294967296
  pub few : k.plain ≡ false → entry_count m t < 4294967295

abbrev pub Refiled : ℕ → ℕ → List ℕ → List ℕ → Classes → Result (Unit {0}) RunFull → Type 0
Refiled m count t index' k (Ok x) = Tracking m count t index' k
Refiled m count t index' k (Err e) = k.plain ≡ false

-- what comes of sweeping a stage
abbrev pub SweepTold : ℕ → List ℕ → List ℕ → Stage → Classes → List ℕ → List ℕ → List ℕ → Result ℕ Halt → Type 0
SweepTold n starts moves stage k t t' index' r =
    Stretched (stickers n) stage.number (Source n starts moves stage t) t stage.count k (Swept n starts moves k stage.number stage.from stage.last) t' index' r

-- a level by classes, that many at first, none for plainly
pub record Climbing (m count : ℕ) (t : List ℕ) (size width : ℕ) : Type 0 where
  pub room : count ≤ entry_count m t
  pub slots : run_length < size
  pub size_few : size < 4294967296
  pub width_most : width ≤ classes
  pub few : (width ≡ 0 → ⊥) → entry_count m t < 4294967295

-- everything due at a stage is there
abbrev pub Covered : ℕ → List ℕ → List ℕ → Stage → List ℕ → ℕ → Type 0
Covered n starts moves stage t c = (s : List ℕ) → Source n starts moves stage t s → Present (entry_key (stickers n) t) c s

abbrev pub Levelled : ℕ → List ℕ → List ℕ → Stage → List ℕ → List ℕ → Option ℕ → Type 0
Levelled n starts moves stage t t' (Some c) =
    Widened (stickers n) stage.number (Source n starts moves stage t) t stage.count t' c × Covered n starts moves stage t' c
Levelled n starts moves stage t t' None = Outgrown (stickers n) stage.number (Source n starts moves stage t) t stage.count t'

-- the stage after a level that came to `count` entries; and the same one with `count` entries, for a large index
abbrev pub next_stage : Stage → ℕ → Stage
next_stage s count = record { number = s.number + 1; from = s.base; last = count; base = count; count = count; large = s.large }

abbrev pub outgrown_stage : Stage → ℕ → Stage
outgrown_stage s count = record { number = s.number; from = s.from; last = s.last; base = s.base; count = count; large = true }
