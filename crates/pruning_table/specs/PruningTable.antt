-- What `pruning_table` refuses, answers and leaves in its buffer.
use Rattle.std.specs.Prelude.{ℕ, ◌%◌, ◌≡◌, Bool, not, Result, List, [], ◌∷◌, ◌++◌, eqb, ltb, length, replicate}
use Rattle.ground.specs.Choice.{pick}
use Rattle.ground.specs.Lists.{over}
use Rattle.ground.specs.Refusals.{Row, ◌when◌, lowest}
use Rattle.ground.specs.declared.refusals.Refusal.{Refusal}
use Rattle.generic_cube.specs.Sizes.{small, beyond, stickers}
use Rattle.generic_cube.specs.Answers.{answer, unless}
use Rattle.generic_cube.specs.Code.{list_rows}
use Rattle.table.specs.Table.{bytes, entry_count}
use Rattle.table_theory.specs.Built.{table_of}

-- 1: the size; 2: starting cubes aren't a whole number of cubes (here by their length); 3, 5: the list; 7: too many candidates or too
-- deep
abbrev pub early_rows : ℕ → ℕ → List ℕ → ℕ → List Row
early_rows n starts moves depth =
    1 when not (small n) ∷ 2 when not (eqb (starts % stickers n) 0) ∷
    (list_rows n moves ++ (7 when beyond (length moves) 0 depth ∷ []))

unfoldable pub early_refusal : ℕ → ℕ → List ℕ → ℕ → ℕ
early_refusal n starts moves depth = lowest (early_rows n starts moves depth)

-- the states outnumber the entries that fit
abbrev pub outnumbered : ℕ → List ℕ → List ℕ → ℕ → List ℕ → Bool
outnumbered n starts moves depth table = ltb (entry_count (stickers n) table) (length (table_of n starts moves depth))

-- 6 comes last, exactly if they do
unfoldable pub pruning_refusal : ℕ → List ℕ → List ℕ → ℕ → List ℕ → ℕ
pruning_refusal n starts moves depth table =
    lowest (early_rows n (length starts) moves depth ++ (6 when outnumbered n starts moves depth table ∷ []))

-- bytes after the used entries stay; after 6 the whole buffer is zero; no other refusal changes it
unfoldable pub pruning_out : ℕ → List ℕ → List ℕ → ℕ → List ℕ → List ℕ
pruning_out n starts moves depth table =
    unless (early_refusal n (length starts) moves depth)
    (pick (outnumbered n starts moves depth table) (replicate (length table) 0) (over (bytes (table_of n starts moves depth)) table))
    table

-- what `pruning_table` answers and leaves in its buffer
pub record PruningTableResult (n : ℕ) (starts moves : List ℕ) (depth : ℕ) (table table' : List ℕ) (r : Result ℕ Refusal) : Type 0 where
  pub answered : r ≡ answer (pruning_refusal n starts moves depth table) (length (table_of n starts moves depth))
  pub left : table' ≡ pruning_out n starts moves depth table
