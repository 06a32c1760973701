-- What is promised of the search (demand 3) and of the tables that are built here, in the words of the rules. The proofs stand in
-- proofs/SearchingLaws.antt and proofs/BuildingLaws.antt.
use Rattle.std.specs.Prelude.{ℕ, ◌+◌, ◌*◌, ◌≤◌, ◌<◌, ◌≡◌, ◌↔◌, Bool, true, false, eqb, length, get_or, take, replicate, Option, Some, None, Result, Ok, Err}
use mathlib.Core.List.{List, [], ◌∷◌, Memᴰ}
use Rattle.ground.specs.Choice.{any, all}
use Rattle.ground.specs.declared.refusals.Refusal.{Refusal}
use Rattle.ground.specs.declared.refusals.Refusal.TheVariants.{Room}
use Rattle.generic_cube.specs.Sizes.{stickers, letters}
use Rattle.generic_cube.specs.Code.{list_refusal}
use Rattle.move_lists.specs.Lists.{inverse_of}
use Rattle.geometric_moves.specs.Turn as Turn
use Rattle.table.specs.Table.{bytes, entry_count, well_formed}
use Rattle.search_theory.specs.Search.{Reply, none, found, run_task, Solves, Admissible, Best}
use Rattle.search_theory.specs.CubeSearch.{CubeSearch, task_of, Cube, AdmissibleTable}
use Rattle.table_theory.specs.Built.{built, table_of, MembersOf}
use Rattle.table_theory.specs.Exact.{Exactly, Outnumber}
use Rattle.pruning_table.specs.PruningTable.{early_refusal, PruningTableResult}
use Rattle.ida_star.specs.IdaStar.{reply, search_refusal, IdaStarResult}

-- the reply that an answer and the output at exit tell
abbrev pub reply_told : Result (Option ℕ) Refusal → List ℕ → Reply
reply_told (Ok (Some k)) out = found (take k out)
reply_told (Ok None) out = none
reply_told (Err k) out = none

-- a search that was not refused ended with this output and this answer
pub record Ran (q : CubeSearch) (out' : List ℕ) (r : Result (Option ℕ) Refusal) : Type 0 where
  pub work : List ℕ
  pub work' : List ℕ
  pub out : List ℕ
  pub taken : search_refusal q (length work) (length out) ≡ 0
  pub result : IdaStarResult q work work' out out' r

-- DEMAND 3: where the table is admissible, the answer is a shortest allowed list to a goal, of those the first in candidate order, or none
-- where no allowed list within the limit reaches a goal
abbrev pub BestAnswer : Type 0
BestAnswer = (q : CubeSearch) (out' : List ℕ) (r : Result (Option ℕ) Refusal) → Ran q out' r → AdmissibleTable q → Best (task_of q) q.limit q.cube (reply_told r out')

-- and it is none exactly if there is none within the limit
abbrev pub NoneExactly : Type 0
NoneExactly =
    (q : CubeSearch) (out' : List ℕ) (r : Result (Option ℕ) Refusal) → Ran q out' r → AdmissibleTable q
    → (r ≡ Ok None) ↔ ((p : List ℕ) → Solves (task_of q) q.cube p → length p ≤ q.limit → ⊥)

-- one reply is the best, and no other is
abbrev pub OneBest : Type 0
OneBest = (q : CubeSearch) → length q.cube ≡ stickers q.n → AdmissibleTable q → (r : Reply) → Best (task_of q) q.limit q.cube r → r ≡ reply q

-- a list of bytes; past its end it reads as 0
abbrev pub Bytes : List ℕ → Type 0
Bytes l = (i : ℕ) → get_or l i 0 < 256

-- for a table of bytes it is the same to ask for an admissible one over the states of bytes alone, as demand 3 does, or over all
abbrev pub BytesEnough : Type 0
BytesEnough = (q : CubeSearch) → Bytes q.table → Admissible (task_of q) (λ s. Cube q.n s × Bytes s) ↔ AdmissibleTable q

-- a list of candidates leads where applying the moves of its codes does
abbrev pub RunIsApplied : Type 0
RunIsApplied = (q : CubeSearch) (p s : List ℕ) → run_task (task_of q) p s ≡ Turn.run q.n p s

-- the used part of a buffer, so many entries
abbrev pub used : ℕ → ℕ → List ℕ → List ℕ
used n count table = take (count * (stickers n + 1)) table

-- a built table holds exactly the states that at most `depth` candidates reach from a starting cube, each with the least such count, in
-- rising order; bytes after the used entries stay
abbrev pub BuiltIsExact : Type 0
BuiltIsExact =
    (n : ℕ) (starts moves : List ℕ) (depth : ℕ) (table table' : List ℕ) (count : ℕ) → PruningTableResult n starts moves depth table table' (Ok count)
    → Exactly n starts moves depth table table' count

-- this leaves one count and one buffer
abbrev pub OneTable : Type 0
OneTable =
    (n : ℕ) (starts moves : List ℕ) (depth : ℕ) (table one two : List ℕ) (c d : ℕ) → Exactly n starts moves depth table one c
    → Exactly n starts moves depth table two d → (c ≡ d) × (one ≡ two)

-- the used part has a table's form
abbrev pub BuiltIsFormed : Type 0
BuiltIsFormed =
    (n : ℕ) (starts moves : List ℕ) (depth : ℕ) (table table' : List ℕ) (count : ℕ) → PruningTableResult n starts moves depth table table' (Ok count)
    → well_formed (stickers n) (used n count table') ≡ true

-- where nothing else is refused it is 6 exactly if these states outnumber the entries that fit, and a table otherwise
abbrev pub FullExactly : Type 0
FullExactly =
    (n : ℕ) (starts moves : List ℕ) (depth : ℕ) (table table' : List ℕ) (r : Result ℕ Refusal) → early_refusal n (length starts) moves depth ≡ 0
    → PruningTableResult n starts moves depth table table' r → (r ≡ Err Room) ↔ Outnumber n starts moves depth (entry_count (stickers n) table)

abbrev pub BuiltOtherwise : Type 0
BuiltOtherwise =
    (n : ℕ) (starts moves : List ℕ) (depth : ℕ) (table table' : List ℕ) (r : Result ℕ Refusal) → early_refusal n (length starts) moves depth ≡ 0
    → PruningTableResult n starts moves depth table table' r → (Outnumber n starts moves depth (entry_count (stickers n) table) → ⊥)
    → r ≡ Ok (length (table_of n starts moves depth))

-- after 6 the whole buffer is zero, and no other refusal changes it
abbrev pub FullIsZero : Type 0
FullIsZero =
    (n : ℕ) (starts moves : List ℕ) (depth : ℕ) (table table' : List ℕ) → PruningTableResult n starts moves depth table table' (Err Room)
    → table' ≡ replicate (length table) 0

abbrev pub RefusedIsKept : Type 0
RefusedIsKept =
    (n : ℕ) (starts moves : List ℕ) (depth : ℕ) (table table' : List ℕ) (k : Refusal) → (k ≡ Room → ⊥) → PruningTableResult n starts moves depth table table' (Err k)
    → table' ≡ table

-- the same starting cubes and candidates, in any order and however often, give the same table
abbrev pub SameMembers : Type 0
SameMembers =
    (n : ℕ) (starts starts' : List (List ℕ)) (moves moves' : List ℕ) (depth : ℕ) → MembersOf starts starts' → MembersOf starts' starts
    → MembersOf moves moves' → MembersOf moves' moves → built n starts moves depth ≡ built n starts' moves' depth

-- ---- candidates that undo themselves

-- a candidate that undoes c on every cube of the size; which code it has is free: U is undone by U', and by Uw' of width 1
pub record UndoneBy (n : ℕ) (moves : List ℕ) (c : ℕ) : Type 0 where
  pub code : ℕ
  pub candidate : Memᴰ code moves
  pub undoes : (cube : List ℕ) → length cube ≡ stickers n → Turn.run n (c ∷ code ∷ []) cube ≡ cube

-- candidates undo themselves: each of them is undone by one of them
abbrev pub UndoThemselves : ℕ → List ℕ → Type 0
UndoThemselves n moves = (c : ℕ) → Memᴰ c moves → UndoneBy n moves c

-- a test of the codes alone: the inverse of each candidate, by its code, is a candidate
unfoldable pub holds_inverses : List ℕ → Bool
holds_inverses moves = all (λ c. any (λ d. eqb d (inverse_of c)) moves) moves

-- candidates that pass it undo themselves
abbrev pub InversesUndo : Type 0
InversesUndo = (n : ℕ) (moves : List ℕ) → 0 < n → list_refusal n moves ≡ 0 → holds_inverses moves ≡ true → UndoThemselves n moves

-- others do too: U (1) and Uw' of width 1 (91) undo themselves, and neither is the other's inverse by its code
abbrev pub WideOneUndoes : Type 0
WideOneUndoes = (n : ℕ) → 0 < n → UndoThemselves n (1 ∷ 91 ∷ []) × (holds_inverses (1 ∷ 91 ∷ []) ≡ false)

-- ---- demand 3 for the tables that are built here

-- DEMAND 3: the used part of a table that was built from candidates that undo themselves is admissible for a search with those
-- candidates and that depth
abbrev pub BuiltAdmits : Type 0
BuiltAdmits =
    (q : CubeSearch) (starts table table' : List ℕ) (count : ℕ) → PruningTableResult q.n starts q.candidates q.depth table table' (Ok count)
    → q.table ≡ used q.n count table' → UndoThemselves q.n q.candidates → AdmissibleTable q

-- so that a search over it answers as demand 3 wants
abbrev pub BuiltThenSearched : Type 0
BuiltThenSearched =
    (q : CubeSearch) (starts table table' : List ℕ) (count : ℕ) → PruningTableResult q.n starts q.candidates q.depth table table' (Ok count)
    → q.table ≡ used q.n count table' → UndoThemselves q.n q.candidates → (out' : List ℕ) (r : Result (Option ℕ) Refusal) → Ran q out' r
    → Best (task_of q) q.limit q.cube (reply_told r out')

-- ---- and for others it may not hold

-- candidates only U, depth 3, the cube after U' (3): here of size 1, whose solved cube is the six letters
abbrev pub only_u : ℕ → CubeSearch
only_u limit =
    record {
      n = 1;
      cube = Turn.run 1 (3 ∷ []) letters;
      table = bytes (table_of 1 letters (1 ∷ []) 3);
      depth = 3;
      candidates = 1 ∷ [];
      limit = limit;
    }

-- limit 2 answers none, limit 3 answers U; that table isn't admissible
pub record OnlyU : Type 0 where
  pub limit_2 : reply (only_u 2) ≡ none
  pub limit_3 : reply (only_u 3) ≡ found (1 ∷ [])
  pub not_admissible : (limit : ℕ) → AdmissibleTable (only_u limit) → ⊥
