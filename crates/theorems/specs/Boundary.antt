-- What a caller of the exported functions reads in the one number that each of them answers, and in the slices that it lent.
use Rattle.std.specs.Prelude.{ℕ, zero, suc, ◌/◌, ◌%◌, ◌<◌, ◌≡◌, true, false, List, length, take, Ok}
use Rattle.generic_cube.specs.Answers.{done, answer_no, answer_value}
use Rattle.generic_cube.specs.Sizes.{sized}
use Rattle.generic_cube.specs.Code.{refusal_in, list_refusal}
use Rattle.generic_cube.specs.AllMoves.{all_refusal}
use Rattle.generic_cube.specs.StickerIndex.{sticker_refusal}
use Rattle.move_lists.specs.Lists.{same_refusal}
use Rattle.scramble_writer.specs.Write.{write_refusal}
use Rattle.scramble_parser.specs.Parse.{Reading, codes, bad, read_answer, scramble_reading, parsed_no, parsed_value}
use Rattle.algorithm_parser.specs.Groups.{algorithm_reading}
use Rattle.facelet_cube.specs.Apply.{apply_refusal}
use Rattle.facelet_cube.specs.Cube.{cube_refusal, mask_refusal}
use Rattle.search_theory.specs.Search.{Reply, none, found, Best}
use Rattle.search_theory.specs.CubeSearch.{CubeSearch, task_of, AdmissibleTable}
use Rattle.pruning_table.specs.PruningTable.{early_refusal, pruning_refusal, PruningTableResult}
use Rattle.ida_star.specs.IdaStar.{reply, search_refusal, IdaStarResult, outcome_value}
use Rattle.cubesim.specs.Pack.{pack, Packed}
use Rattle.theorems.specs.Searching.{used, UndoThemselves}

-- ---- the packing

-- values below 2⁵⁶ have room beside a number below 256; no slice is that long
abbrev pub Fits : ℕ → Type 0
Fits value = value < 72057594037927936

-- number and value come back: the answer modulo 256, and the answer by 256
abbrev pub NumberBack : Type 0
NumberBack = (number value : ℕ) → number < 256 → Fits value → pack number value % 256 ≡ number

abbrev pub ValueBack : Type 0
ValueBack = (number value : ℕ) → number < 256 → Fits value → pack number value / 256 ≡ value

-- ---- the builder and the search

-- a call of `cubesim_pruning_table` answered b and left table'
abbrev pub TableCall : ℕ → List ℕ → List ℕ → ℕ → List ℕ → List ℕ → ℕ → Type 0
TableCall n starts moves depth table table' b = Packed answer_no answer_value (PruningTableResult n starts moves depth table table') b

-- a call of `cubesim_ida_star` answered r and left work' and out'
abbrev pub SearchCall : CubeSearch → List ℕ → List ℕ → List ℕ → List ℕ → ℕ → Type 0
SearchCall q work work' out out' r = Packed answer_no outcome_value (IdaStarResult q work work' out out') r

-- the value 0 tells none, k + 1 the first k codes of the output
abbrev pub reply_read : ℕ → List ℕ → Reply
reply_read zero out = none
reply_read (suc k) out = found (take k out)

-- number 0: a table was built, and the value is the count of its entries
abbrev pub TableRead : Type 0
TableRead =
    (n : ℕ) (starts moves : List ℕ) (depth : ℕ) (table table' : List ℕ) (b : ℕ) → Fits (length table)
    → TableCall n starts moves depth table table' b → b % 256 ≡ 0 → PruningTableResult n starts moves depth table table' (Ok (b / 256))

-- number 0: value and output tell what `dfs` under rising limits answers, for any table at all
abbrev pub SearchTold : Type 0
SearchTold =
    (q : CubeSearch) (work work' out out' : List ℕ) (r : ℕ) → SearchCall q work work' out out' r → r % 256 ≡ 0 → reply_read (r / 256) out' ≡ reply q

-- DEMAND 3: number 0, and an admissible table: value and output tell a shortest allowed list to a goal, of those the first in candidate
-- order, or none where no allowed list within the limit reaches a goal
abbrev pub SearchRead : Type 0
SearchRead =
    (q : CubeSearch) (work work' out out' : List ℕ) (r : ℕ) → SearchCall q work work' out out' r → r % 256 ≡ 0 → AdmissibleTable q
    → Best (task_of q) q.limit q.cube (reply_read (r / 256) out')

-- DEMAND 3: the two calls, one after the other, with candidates that undo themselves
abbrev pub TableThenSearchRead : Type 0
TableThenSearchRead =
    (q : CubeSearch) (starts table table' : List ℕ) (b : ℕ) → Fits (length table)
    → TableCall q.n starts q.candidates q.depth table table' b → b % 256 ≡ 0
    → q.table ≡ used q.n (b / 256) table' → UndoThemselves q.n q.candidates
    → (work work' out out' : List ℕ) (r : ℕ) → SearchCall q work work' out out' r → r % 256 ≡ 0
    → Best (task_of q) q.limit q.cube (reply_read (r / 256) out')

-- ---- the number in an answer

-- it is the one that the entry's rows give, as each of them has a refusal of its own
abbrev pub NumberTold : ℕ → Type 0
NumberTold k = answer_no (done k) ≡ k

-- and of a text the one that its first bad token has
abbrev pub PlaceTold : ℕ → Reading → ℕ → Type 0
PlaceTold n r room = (k at : ℕ) → sized n ≡ true → r ≡ bad k at → (parsed_no (read_answer n r room) ≡ k) × (parsed_value (read_answer n r room) ≡ at)

pub record NumbersTold : Type 0 where
  pub of_cube : (n long : ℕ) → NumberTold (cube_refusal n long)
  pub of_sticker : (n face i : ℕ) → NumberTold (sticker_refusal n face i)
  pub of_mask : (n cube : ℕ) (ids : List ℕ) (keep : ℕ) → NumberTold (mask_refusal n cube ids keep)
  pub of_moves : (n : ℕ) (moves : List ℕ) → NumberTold (list_refusal n moves)
  pub of_moves_in : (low high : ℕ) (moves : List ℕ) → NumberTold (refusal_in low high moves)
  pub of_list : (n cube work : ℕ) (moves : List ℕ) → NumberTold (apply_refusal n cube work moves)
  pub of_all_moves : (n room : ℕ) → NumberTold (all_refusal n room)
  pub of_scramble : (n : ℕ) (text : List ℕ) (room : ℕ) → PlaceTold n (scramble_reading n text) room
  pub of_algorithm : (n : ℕ) (text : List ℕ) (room : ℕ) → PlaceTold n (algorithm_reading n text) room
  pub of_text_size : (n : ℕ) (r : Reading) (room : ℕ) → sized n ≡ false → parsed_no (read_answer n r room) ≡ 1
  pub of_text_room : (n : ℕ) (cs : List ℕ) (room : ℕ) → sized n ≡ true → room < length cs → parsed_no (read_answer n (codes cs) room) ≡ 6
  pub of_writer : (n : ℕ) (moves : List ℕ) (room : ℕ) → NumberTold (write_refusal n moves room)
  pub of_same_length : (n : ℕ) (moves : List ℕ) (room : ℕ) → NumberTold (same_refusal n moves room)
  pub of_table : (n starts : ℕ) (moves : List ℕ) (depth : ℕ) → NumberTold (early_refusal n starts moves depth)
  pub of_built : (n : ℕ) (starts moves : List ℕ) (depth : ℕ) (table : List ℕ) → NumberTold (pruning_refusal n starts moves depth table)
  pub of_search : (q : CubeSearch) (work out : ℕ) → NumberTold (search_refusal q work out)
