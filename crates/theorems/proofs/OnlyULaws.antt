-- Candidates only U: a computed case.
use Prim.Native.Nat.{ℕ, zero, suc, ◌<◌, ◌≤◌}
use mathlib.Core.Path.{◌≡◌, refl}
use mathlib.Core.List.{[], ◌∷◌, Memᴰ}
use native.Mathlib.Omega.{arith}
use lib.ListN.{get_or}
use Rattle.generic_cube.specs.Code.{move_of, joins}
use Rattle.geometric_moves.specs.Turn.{same_face, whither, inverse_rot, turn_of, quarter_of, kind_face, layers_of, takes, target, source, moved, run}
use Rattle.table.specs.Order.{order_of}
use Rattle.table.specs.Table.{bytes, first_entries, number_for, state_number}
use Rattle.search_theory.specs.Search.{or_else, first_of, bars, dfs, passes, run_task, Solves}
use Rattle.search_theory.specs.CubeSearch.{task_of, AdmissibleTable}
use Rattle.table_theory.specs.Built.{add, add_all, spread, frontier, built, cubes}
use Rattle.ground.specs.Lists.{tabulate}
use Rattle.theorems.specs.Searching.{only_u, OnlyU}

-- U solves it, and is allowed
solved_by_u : (limit : ℕ) → Solves (task_of (only_u limit)) (only_u limit).cube (1 ∷ [])
unfolding add add_all spread frontier built cubes bytes first_entries number_for state_number order_of same_face whither inverse_rot turn_of quarter_of kind_face layers_of takes target source moved run move_of run_task tabulate
solved_by_u limit = record { allowed = record { candidate = member; apart = λ i h. absurd (omega arith) }; goal = refl }
  where
    member : (i : ℕ) → i < 1 → Memᴰ {A = ℕ} (get_or (1 ∷ []) i 0) (1 ∷ [])
    member zero h = Memᴰ.head refl
    member (suc i) h = absurd (omega arith)

-- its number is 3
numbered_3 : (limit : ℕ) → (task_of (only_u limit)).number (only_u limit).cube ≡ 3
unfolding add add_all spread frontier built cubes bytes first_entries number_for state_number order_of same_face whither inverse_rot turn_of quarter_of kind_face layers_of takes target source moved run move_of tabulate
numbered_3 limit = refl

too_high : (limit : ℕ) → AdmissibleTable (only_u limit) → ⊥
unfolding run moved tabulate
too_high limit low =
    let h : (task_of (only_u limit)).number (only_u limit).cube ≤ 1 = low (only_u limit).cube refl (1 ∷ []) (solved_by_u limit) in
    omega (arith, numbered_3 limit)

pub only_u_lem : OnlyU
unfolding add add_all spread frontier built cubes bytes first_entries number_for state_number order_of same_face whither inverse_rot turn_of quarter_of kind_face layers_of takes target source moved run move_of tabulate or_else first_of bars joins dfs passes
only_u_lem = record { limit_2 = refl; limit_3 = refl; not_admissible = too_high }
