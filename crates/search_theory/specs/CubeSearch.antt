-- The search of a cube over a table.
use Rattle.std.specs.Prelude.{ℕ, ◌≡◌, List, length}
use Rattle.generic_cube.specs.Sizes.{stickers}
use Rattle.generic_cube.specs.Code.{move_of, joins}
use Rattle.geometric_moves.specs.Turn.{moved}
use Rattle.table.specs.Table.{state_number}
use Rattle.search_theory.specs.Search.{Task, Admissible}

-- what a search is given: a size, a cube of it, a table and the table's depth, the candidates and a limit
pub record CubeSearch : Type 0 where
  pub n : ℕ
  pub cube : List ℕ
  pub table : List ℕ
  pub depth : ℕ
  pub candidates : List ℕ
  pub limit : ℕ

-- a cube after the move of a code
abbrev pub moved_by : ℕ → ℕ → List ℕ → List ℕ
moved_by n c s = moved n (move_of c) s

-- a move turns the cube; a state's number is the one that the table gives; no two neighbours share both kind and width,
-- as moves that join do
abbrev pub cube_task : ℕ → List ℕ → ℕ → List ℕ → Task
cube_task n table depth candidates =
    record { moved = moved_by n; number = state_number (stickers n) table depth; barred = joins; candidates = candidates }

abbrev pub task_of : CubeSearch → Task
task_of q = cube_task q.n q.table q.depth q.candidates

-- the states of a size: any 6n² bytes
abbrev pub Cube : ℕ → List ℕ → Type 0
Cube n s = length s ≡ stickers n

-- its table is admissible: the number of each state is never above the length of an allowed list from there to a goal
abbrev pub AdmissibleTable : CubeSearch → Type 0
AdmissibleTable q = Admissible (task_of q) (Cube q.n)
