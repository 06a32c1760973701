-- A table of bytes: its goals are bytes, and a state from which a goal of bytes is reached is bytes too.
use Prim.Native.Nat.{ℕ, zero, suc, ◌+◌, ◌*◌, ◌<◌, ◌≤◌}
use mathlib.Core.Path.{◌≡◌, sym, subst, ◌∙◌}
use mathlib.Core.List.{List, [], ◌∷◌}
use native.Mathlib.Omega.{arith}
use lib.ListN.{length, take, drop, get_or-eq_default}
use lib.Seq.{get_or-drop}
use Rattle.ground.proofs.ChoiceLaws.{less_cases}
use Rattle.generic_cube.specs.declared.Move.{Move}
use Rattle.generic_cube.specs.Sizes.{stickers}
use Rattle.generic_cube.specs.Code.{move_of}
use Rattle.generic_cube.proofs.CodeLaws.{turn_most}
use Rattle.sticker.specs.Place.{place, index}
use Rattle.geometric_moves.specs.Turn.{turned, moved}
use Rattle.geometric_moves.proofs.MovedLaws.{length_moved, moved-target}
use Rattle.table.specs.Entries.{entry_key, entry_number}
use Rattle.table.specs.Table.{entry_count, state_number}
use Rattle.table.proofs.TableLaws.{number_look, look_cases}
use Rattle.search_theory.specs.Search.{run_task}
use Rattle.search_theory.specs.CubeSearch.{CubeSearch, task_of, moved_by}
use Rattle.theorems.specs.Searching.{Bytes, BytesEnough}

-- a cube that has a sticker has a size
some_size : (n i : ℕ) → i < 6 * n * n → 0 < n
some_size zero i h = absurd (omega arith)
some_size (suc n) i h = omega arith

byte_at : {a b : ℕ} → a ≡ b → a < 256 → b < 256
byte_at e h = omega (arith, e)

-- every sticker goes somewhere, so that where it comes to bytes it was bytes
moved-bytes : (n : ℕ) (m : Move) (l : List ℕ) → m.turn ≤ 4 → length l ≡ stickers n → Bytes (moved n m l) → Bytes l
moved-bytes n m l h g b i =
    less_cases i (stickers n)
    (λ lt. byte_at (moved-target n m l i (some_size n i lt) h lt) (b (index n (turned n m (place n i)))))
    (λ ge. byte_at (sym (get_or-eq_default l 0 {n = i} (omega (arith, g)))) (omega arith))

run-bytes : (q : CubeSearch) (p s : List ℕ) → length s ≡ stickers q.n → Bytes (run_task (task_of q) p s) → Bytes s
unfolding run_task
run-bytes q [] s g b = b
run-bytes q (c ∷ p) s g b =
    moved-bytes q.n (move_of c) s (omega (arith, turn_most c)) g (run-bytes q p (moved_by q.n c s) (length_moved q.n (move_of c) s) b)

-- a part of bytes is bytes
drop-bytes : (k : ℕ) (l : List ℕ) → Bytes l → Bytes (drop k l)
drop-bytes k l b i = byte_at (sym (get_or-drop k l i 0)) (b (k + i))

take-bytes : (k : ℕ) (l : List ℕ) → Bytes l → Bytes (take k l)
take-bytes zero l b i = omega arith
take-bytes (suc k) [] b i = b i
take-bytes (suc k) (x ∷ l) b zero = b 0
take-bytes (suc k) (x ∷ l) b (suc i) = take-bytes k l (λ j. b (suc j)) i

-- a goal is a key of the table
goal_bytes : (m : ℕ) (table : List ℕ) (depth : ℕ) (s : List ℕ) → Bytes table → state_number m table depth s ≡ 0 → Bytes s
goal_bytes m table depth s b e =
    look_cases (entry_key m table) (entry_number m table) s (depth + 1) 0 (entry_count m table)
    (λ j h l k. subst Bytes k (take-bytes m (drop (j * (m + 1)) table) (drop-bytes (j * (m + 1)) table b)))
    (λ z. absurd (let w : 0 ≡ depth + 1 = sym e ∙ number_look m table depth s ∙ z in omega arith))

pub bytes_enough : BytesEnough
bytes_enough q b = (
  λ low s whole p a.
      low s (whole, run-bytes q p s whole (goal_bytes (stickers q.n) q.table q.depth (run_task (task_of q) p s) b a.goal)) p a,
  λ low s st p a. low s st.0 p a,
)
