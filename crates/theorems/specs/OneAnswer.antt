-- One possible answer: for each exported function, whatever meets its contract on the same arguments is the same, the answer and every lent
-- slice, for refused input too.
use Rattle.std.specs.Prelude.{ℕ, ◌≡◌, List, Result}
use Rattle.ground.specs.declared.refusals.Refusal.{Refusal}
use Rattle.generic_cube.specs.Answers.{answer_no, answer_value, answer}
use Rattle.generic_cube.specs.AllMoves.{AllMovesResult}
use Rattle.generic_cube.specs.StickerIndex.{sticker_refusal, sticker_index}
use Rattle.move_lists.specs.Lists.{SimplifyResult, InvertResult}
use Rattle.scramble_writer.specs.Write.{WriteResult}
use Rattle.scramble_parser.specs.Parse.{ParseResult, parsed_no, parsed_value}
use Rattle.algorithm_parser.specs.Groups.{AlgorithmResult}
use Rattle.facelet_cube.specs.Apply.{ApplyMovesResult}
use Rattle.facelet_cube.specs.Cube.{verdict, verdict_no, verdict_value, SolvedResult, SolvedIdsResult, MaskResult}
use Rattle.search_theory.specs.CubeSearch.{CubeSearch}
use Rattle.pruning_table.specs.PruningTable.{PruningTableResult}
use Rattle.ida_star.specs.IdaStar.{IdaStarResult, outcome_value}
use Rattle.cubesim.specs.Pack.{Packed}

-- a contract over the answer alone, over it and one lent slice, and over it and two
abbrev pub One : (ℕ → Type 0) → Type 0
One P = (r s : ℕ) → P r → P s → r ≡ s

abbrev pub One1 : (ℕ → List ℕ → Type 0) → Type 0
One1 P = (r s : ℕ) (a b : List ℕ) → P r a → P s b → (r ≡ s) × (a ≡ b)

abbrev pub One2 : (ℕ → List ℕ → List ℕ → Type 0) → Type 0
One2 P = (r s : ℕ) (a b x y : List ℕ) → P r a x → P s b y → (r ≡ s) × (a ≡ b) × (x ≡ y)

-- the contracts' way of saying it: an answer that gives nothing back, a count or an index
abbrev pub Success : (Result (Unit {0}) Refusal → Type 0) → ℕ → Type 0
Success Result r = Packed answer_no (λ a. 0) Result r

abbrev pub Valued : (Result ℕ Refusal → Type 0) → ℕ → Type 0
Valued Result r = Packed answer_no answer_value Result r

pub record OneAnswer : Type 0 where
  pub solved : (n : ℕ) (cube : List ℕ) → One1 (λ r a. Success (SolvedResult n cube a) r)
  pub solved_ids_lem : (n : ℕ) (ids : List ℕ) → One1 (λ r a. Success (SolvedIdsResult n ids a) r)
  pub is_solved_lem : (n : ℕ) (cube : List ℕ) → One (Packed verdict_no verdict_value (λ a. a ≡ verdict n cube))
  pub sticker_index_lem : (n face i : ℕ) → One (Valued (λ a. a ≡ answer (sticker_refusal n face i) (sticker_index n face i)))
  pub mask : (n : ℕ) (cube ids keep : List ℕ) → One1 (λ r a. Success (MaskResult n cube ids keep a) r)
  -- letters and ids
  pub apply_moves : (n : ℕ) (cube work moves : List ℕ) → One2 (λ r a x. Success (ApplyMovesResult n cube work moves a x) r)
  pub all_moves_lem : (n : ℕ) (out : List ℕ) → One1 (λ r a. Valued (AllMovesResult n out a) r)
  pub parse_scramble : (n : ℕ) (text out : List ℕ) → One1 (λ r a. Packed parsed_no parsed_value (ParseResult n text out a) r)
  pub parse_algorithm : (n : ℕ) (text out : List ℕ) → One1 (λ r a. Packed parsed_no parsed_value (AlgorithmResult n text out a) r)
  pub write_scramble : (n : ℕ) (moves out : List ℕ) → One1 (λ r a. Valued (WriteResult n moves out a) r)
  pub simplify_moves : (n : ℕ) (moves out : List ℕ) → One1 (λ r a. Valued (SimplifyResult n moves out a) r)
  pub invert_moves : (n : ℕ) (moves out : List ℕ) → One1 (λ r a. Valued (InvertResult n moves out a) r)
  pub pruning_table : (n : ℕ) (starts moves : List ℕ) (depth : ℕ) (table : List ℕ) → One1 (λ r a. Valued (PruningTableResult n starts moves depth table a) r)
  pub ida_star : (q : CubeSearch) (work out : List ℕ) → One2 (λ r a x. Packed answer_no outcome_value (IdaStarResult q work a out x) r)
