-- Tables that are exact are admissible where each candidate is undone by a candidate.
use Prim.Native.Nat.{ℕ, ◌+◌, ◌*◌, ◌/◌, ◌%◌, ◌<◌}
use mathlib.Core.Path.{◌≡◌, sym, ap, subst, ◌∙◌}
use mathlib.Core.Bool.{true}
use mathlib.Core.List.{List, [], append-nil, Memᴰ}
use native.Mathlib.Nat.{mul-div_cancel, mul-mod_left}
use native.Mathlib.Omega.{arith}
use lib.ListN.{length}
use Rattle.ground.proofs.ChoiceLaws.{less_cases}
use Rattle.generic_cube.specs.Sizes.{stickers}
use Rattle.generic_cube.specs.Code.{move_of}
use Rattle.geometric_moves.proofs.MovedLaws.{length_moved}
use Rattle.table.specs.Entries.{entry_key, entry_number, Rising, Present}
use Rattle.table.specs.Table.{entry_count, state_number, well_formed, bytes}
use Rattle.table.proofs.TableLaws.{formed_rising, rising_formed, number_look, look_found, look_cases}
use Rattle.search_theory.specs.CubeSearch.{moved_by, cube_task, Cube}
use Rattle.search_theory.specs.Search.{Admissible}
use Rattle.admissible_theory.proofs.BestLaws.{KeepsStates}
use Rattle.search_theory.specs.Levels.{ReachIn, Exact}
use Rattle.admissible_theory.proofs.LevelsLaws.{Undone, CountsMoves, counted}
use Rattle.table_theory.specs.Built.{table_of}
use Rattle.table.proofs.EntryListLaws.{length-bytes}
use Rattle.table_theory.specs.Exact.{Start}
use Rattle.table_theory.proofs.ExactLaws.{table_long, table_rising, table_exact}

module _ (n : ℕ) (starts moves : List ℕ) (depth : ℕ) (table : List ℕ) where
  -- candidates keep cubes
  cubes_kept : KeepsStates (cube_task n table depth moves) (Cube n)
  cubes_kept c m s l = length_moved n (move_of c) s

  module _ (formed : well_formed (stickers n) table ≡ true)
      (exact : Exact (moved_by n) moves (Start n starts) depth (entry_key (stickers n) table) (entry_number (stickers n) table) (entry_count (stickers n) table)) where
    -- the number of a state that is there, and of one that is not
    number_there : (s : List ℕ) (p : Present (entry_key (stickers n) table) (entry_count (stickers n) table) s) → state_number (stickers n) table depth s ≡ entry_number (stickers n) table p.0
    number_there s p =
        number_look (stickers n) table depth s
        ∙ look_found (entry_key (stickers n) table) (entry_number (stickers n) table) s (entry_count (stickers n) table) (formed_rising (stickers n) table formed)
        (depth + 1) p.0 p.1 p.2

    known {ℓ} : {A : Type ℓ} (s : List ℕ) → (Present (entry_key (stickers n) table) (entry_count (stickers n) table) s → A) → (state_number (stickers n) table depth s ≡ depth + 1 → A) → A
    known s f g =
        look_cases (entry_key (stickers n) table) (entry_number (stickers n) table) s (depth + 1) 0 (entry_count (stickers n) table)
        (λ j h l e. f (j, omega arith, e)) (λ e. g (number_look (stickers n) table depth s ∙ e))

    number_counts : CountsMoves (cube_task n table depth moves) (Start n starts) depth
    number_counts =
        record {
          low = λ s j h r.
              let p = exact.whole j s h r in
              less_cases j (entry_number (stickers n) table p.0)
              (λ lt. absurd ((exact.right p.0 p.1).least j lt (subst (ReachIn (moved_by n) moves (Start n starts) j) (sym p.2) r)))
              (λ ge. omega (arith, number_there s p));
          top = λ s. known s (λ p. omega (arith, number_there s p, exact.shallow p.0 p.1)) (λ e. omega arith);
          goal = λ s e.
              known s
              (λ p.
              subst (Start n starts) p.2
              (subst (λ (k : ℕ). ReachIn (moved_by n) moves (Start n starts) k (entry_key (stickers n) table p.0)) (sym (number_there s p) ∙ e) (exact.right p.0 p.1).reached))
              (λ q. absurd (omega arith));
        }

    -- an exact table is admissible
    pub exact_admissible : ((c : ℕ) → Memᴰ c moves → Undone (cube_task n table depth moves) (Cube n) c) → Admissible (cube_task n table depth moves) (Cube n)
    exact_admissible undone = counted (cube_task n table depth moves) (Cube n) cubes_kept (Start n starts) depth number_counts undone

-- the used part of the builder's table, as the search takes it
module _ (n : ℕ) (starts moves : List ℕ) (depth : ℕ) (some : 0 < stickers n) where
  pub used-length : length (bytes (table_of n starts moves depth)) ≡ length (table_of n starts moves depth) * (stickers n + 1)
  used-length = length-bytes (stickers n) (table_of n starts moves depth) (table_long n starts moves depth some)

  bytes_entries : length (table_of n starts moves depth) ≡ entry_count (stickers n) (bytes (table_of n starts moves depth))
  bytes_entries =
      sym (ap (λ (k : ℕ). k / (stickers n + 1)) used-length ∙ mul-div_cancel (length (table_of n starts moves depth)) {n = stickers n + 1} (omega arith))

  pub used_exact : Exact (moved_by n) moves (Start n starts) depth (entry_key (stickers n) (bytes (table_of n starts moves depth)))
      (entry_number (stickers n) (bytes (table_of n starts moves depth))) (entry_count (stickers n) (bytes (table_of n starts moves depth)))
  used_exact =
      subst (Exact (moved_by n) moves (Start n starts) depth (entry_key (stickers n) (bytes (table_of n starts moves depth))) (entry_number (stickers n) (bytes (table_of n starts moves depth)))) bytes_entries
      (subst (λ (l : List ℕ). Exact (moved_by n) moves (Start n starts) depth (entry_key (stickers n) l) (entry_number (stickers n) l) (length (table_of n starts moves depth)))
      (append-nil (bytes (table_of n starts moves depth))) (table_exact n starts moves depth some []))

  pub used_formed : well_formed (stickers n) (bytes (table_of n starts moves depth)) ≡ true
  used_formed =
      rising_formed (stickers n) (bytes (table_of n starts moves depth))
      (ap (λ (k : ℕ). k % (stickers n + 1)) used-length ∙ mul-mod_left (length (table_of n starts moves depth)) (stickers n + 1))
      (subst (Rising (entry_key (stickers n) (bytes (table_of n starts moves depth)))) bytes_entries
      (subst (λ (l : List ℕ). Rising (entry_key (stickers n) l) (length (table_of n starts moves depth))) (append-nil (bytes (table_of n starts moves depth)))
      (table_rising n starts moves depth some [])))

  -- breadth-first counts from candidates that undo themselves are admissible
  pub built_admissible : ((c : ℕ) → Memᴰ c moves → Undone (cube_task n (bytes (table_of n starts moves depth)) depth moves) (Cube n) c)
      → Admissible (cube_task n (bytes (table_of n starts moves depth)) depth moves) (Cube n)
  built_admissible undone = exact_admissible n starts moves depth (bytes (table_of n starts moves depth)) used_formed used_exact undone
