-- The packing undone, and demand 3 of the exported functions' answers.
use Prim.Native.Nat.{ℕ, zero, suc, ◌/◌, ◌%◌, ◌≤◌, ◌<◌}
use mathlib.Core.Path.{◌≡◌, refl, sym, ap, subst, ◌∙◌}
use mathlib.Core.Bool.{true, false}
use mathlib.Core.List.{List, [], ◌∷◌, ◌++◌}
use native.Mathlib.Omega.{arith}
use lib.ListN.{length}
use borrow.Author.Tests.{lt-ltb}
use Rattle.std.specs.Prelude.{Option, Some, None, Result, Ok, Err}
use Rattle.ground.specs.declared.refusals.Refusal.{Refusal}
use Rattle.ground.specs.Refusals.{◌when◌, refusal_no, refusal}
use Rattle.ground.proofs.RefusalLaws.{number_low}
use Rattle.generic_cube.proofs.AnswerLaws.{ok_number, number_told}
use Rattle.generic_cube.specs.Answers.{answer_no, answer_value}
use Rattle.generic_cube.specs.Code.{rows_in, refusal_in, list_rows, list_refusal}
use Rattle.generic_cube.specs.AllMoves.{all_rows, all_refusal}
use Rattle.generic_cube.specs.StickerIndex.{sticker_rows, sticker_refusal}
use Rattle.move_lists.specs.Lists.{same_rows, same_refusal}
use Rattle.scramble_writer.specs.Write.{write_rows, write_refusal}
use Rattle.tokens.specs.Words.{tokens_of}
use Rattle.scramble_parser.specs.Parse.{Reading, codes, bad, read_answer, scramble_reading, parsed_no}
use Rattle.scramble_parser.proofs.ParseLaws.{reading_listed}
use Rattle.algorithm_parser.specs.Groups.{algorithm_reading}
use Rattle.algorithm_parser.proofs.NumberLaws.{algorithm_listed}
use Rattle.facelet_cube.specs.Apply.{apply_rows, apply_refusal}
use Rattle.facelet_cube.specs.Cube.{cube_rows, cube_refusal, mask_rows, mask_refusal}
use Rattle.table.proofs.TableLaws.{entries_most}
use Rattle.generic_cube.specs.Sizes.{sized, stickers}
use Rattle.search_theory.specs.Search.{Reply, none, found, Task, passes, Best}
use Rattle.search_theory.proofs.SearchLaws.{never_found, else_found}
use Rattle.search_theory.proofs.PathFreeLaws.{sound, dfs_start}
use Rattle.search_theory.specs.CubeSearch.{CubeSearch, task_of}
use Rattle.pruning_table.specs.PruningTable.{early_rows, early_refusal, outnumbered, pruning_refusal, PruningTableResult}
use Rattle.ida_star.specs.IdaStar.{reply, search_rows, search_refusal, outcome_value, outcome_of, IdaStarResult}
use Rattle.ida_star.proofs.IdaStarLaws.{search_taken}
use Rattle.cubesim.specs.Pack.{pack}
use Rattle.theorems.specs.Searching.{reply_told, Ran}
use Rattle.theorems.specs.Boundary.{Fits, NumberBack, ValueBack, SearchCall, reply_read, TableRead, SearchTold, SearchRead, TableThenSearchRead, PlaceTold, NumbersTold}
use Rattle.theorems.proofs.BuildingLaws.{exact_result, built_admits}
use Rattle.theorems.proofs.SearchingLaws.{ran_told, best_answer}

-- ---- the packing

pub number_back : NumberBack
unfolding pack
number_back number value h f = rw (lt-ltb value 72057594037927936 f) (omega arith)

pub value_back : ValueBack
unfolding pack
value_back number value h f = rw (lt-ltb value 72057594037927936 f) (omega arith)

-- of an answer r that packs them
number_is : {r number value : ℕ} → r ≡ pack number value → number < 256 → Fits value → r % 256 ≡ 0 → number ≡ 0
number_is {r} {number} {value} e h f z = sym (ap (λ (x : ℕ). x % 256) e ∙ number_back number value h f) ∙ z

value_is : {r number value : ℕ} → r ≡ pack number value → number < 256 → Fits value → r / 256 ≡ value
value_is {r} {number} {value} e h f = ap (λ (x : ℕ). x / 256) e ∙ value_back number value h f

-- ---- the builder's answer

-- a refusal's number is not 0
refused_0 : {A : Type 0} {r : ℕ} (k : Refusal) → r ≡ pack (refusal_no k) 0 → r % 256 ≡ 0 → A
refused_0 k e z = let l = number_low k in absurd (omega (arith, l.0, number_is e (omega (arith, l.1)) (omega arith) z))

pub table_read : TableRead
table_read n starts moves depth table table' b f c z = go c.answer c.result c.packed
  where
    go : (a : Result ℕ Refusal) → PruningTableResult n starts moves depth table table' a → b ≡ pack (answer_no a) (answer_value a)
        → PruningTableResult n starts moves depth table table' (Ok (b / 256))
    go (Ok v) p e =
        let most : v ≤ length table = omega (arith, (exact_result p).room, entries_most (stickers n) table) in
        subst (λ (k : ℕ). PruningTableResult n starts moves depth table table' (Ok k)) (sym (value_is e (omega arith) (omega arith))) p
    go (Err k) p e = refused_0 k e z

-- ---- the search's answer

-- a list that was found is no longer than the passes are many
passes_short : (t : Task) (n : ℕ) (s : List ℕ) {p : List ℕ} → passes t n s ≡ found p → length p ≤ n
unfolding passes
passes_short t zero s e = never_found e
passes_short t (suc n) s e =
    else_found (passes t n s) e (λ h. omega (arith, passes_short t n s h)) (λ h g. omega (arith, (sound t n (sym (dfs_start t n s) ∙ g)).within))

found_short : (q : CubeSearch) {k : ℕ} (x : Reply) → reply q ≡ x → Some k ≡ outcome_of x → k ≤ suc q.limit
found_short q none d e = let z : ◌≡◌ {A = ℕ} 0 1 = cc in absurd (omega arith)
found_short q {k} (found p) d e = let z : k ≡ length p = cc in omega (arith, passes_short (task_of q) (suc q.limit) q.cube d)

-- number 0: a search that ended with this answer, which value and output tell
pub record ReadRan (q : CubeSearch) (out' : List ℕ) (r : ℕ) : Type 0 where
  pub given : Result (Option ℕ) Refusal
  pub ran : Ran q out' given
  pub told : reply_read (r / 256) out' ≡ reply_told given out'

module _ (q : CubeSearch) (work work' out out' : List ℕ) where
  -- an answer that is no refusal was given to a search that is taken
  search_ran : {o : Option ℕ} → IdaStarResult q work work' out out' (Ok o) → Ran q out' (Ok o)
  search_ran p =
      record {
        work = work;
        work' = work';
        out = out;
        taken = (ok_number (search_refusal q (length work) (length out)) (outcome_of (reply q)) p.answered).0;
        result = p;
      }

  found_few : {k : ℕ} → IdaStarResult q work work' out out' (Ok (Some k)) → k ≤ 21
  found_few p =
      let a = ok_number (search_refusal q (length work) (length out)) (outcome_of (reply q)) p.answered in
      let low = (search_taken q (length work) (length out) a.0).starting.low in
      omega (arith, found_short q (reply q) refl a.1)

  pub read_ran : {r : ℕ} → SearchCall q work work' out out' r → r % 256 ≡ 0 → ReadRan q out' r
  read_ran {r} c z = go c.answer c.result c.packed
    where
      go : (a : Result (Option ℕ) Refusal) → IdaStarResult q work work' out out' a → r ≡ pack (answer_no a) (outcome_value a) → ReadRan q out' r
      go (Ok (Some k)) p e =
          record { given = Ok (Some k); ran = search_ran p; told = ap (λ (v : ℕ). reply_read v out') (value_is e (omega arith) (omega (arith, found_few p))) }
      go (Ok None) p e =
          record { given = Ok None; ran = search_ran p; told = ap (λ (v : ℕ). reply_read v out') (value_is e (omega arith) (omega arith)) }
      go (Err k) p e = refused_0 k e z

pub search_told : SearchTold
search_told q work work' out out' r c z = let x = read_ran q work work' out out' c z in x.told ∙ ran_told x.ran

pub search_read : SearchRead
search_read q work work' out out' r c z low =
    let x = read_ran q work work' out out' c z in
    subst (Best (task_of q) q.limit q.cube) (sym x.told) (best_answer q out' x.given x.ran low)

pub table_then_search_read : TableThenSearchRead
table_then_search_read q starts table table' b f c z is undo work work' out out' r d y =
    search_read q work work' out out' r d y
    (built_admits q starts table table' (b / 256) (table_read q.n starts q.candidates q.depth table table' b f c z) is undo)

-- ---- the number in an answer

told_of : (n : ℕ) (r : Reading) (room : ℕ) → ((k at : ℕ) → r ≡ bad k at → refusal_no (refusal k) ≡ k) → PlaceTold n r room
unfolding read_answer
told_of n r room h k at s e = rw (s, e) (h k at e, refl)

size_told : (n : ℕ) (r : Reading) (room : ℕ) → sized n ≡ false → parsed_no (read_answer n r room) ≡ 1
unfolding read_answer
size_told n r room s = rw s refl

room_told : (n : ℕ) (cs : List ℕ) (room : ℕ) → sized n ≡ true → room < length cs → parsed_no (read_answer n (codes cs) room) ≡ 6
unfolding read_answer
room_told n cs room s h = rw (s, lt-ltb room (length cs) h) refl

pub numbers_told : NumbersTold
unfolding cube_refusal sticker_refusal mask_refusal list_refusal refusal_in apply_refusal all_refusal write_refusal same_refusal early_refusal pruning_refusal search_refusal
numbers_told =
    record {
      of_cube = λ n long. number_told (cube_rows n long) tt refl;
      of_sticker = λ n face i. number_told (sticker_rows n face i) tt refl;
      of_mask = λ n cube ids keep. number_told (mask_rows n cube ids keep) tt refl;
      of_moves = λ n moves. number_told (list_rows n moves) tt refl;
      of_moves_in = λ low high moves. number_told (rows_in low high moves) tt refl;
      of_list = λ n cube work moves. number_told (apply_rows n cube work moves) tt refl;
      of_all_moves = λ n room. number_told (all_rows n room) tt refl;
      of_scramble = λ n text room. told_of n (scramble_reading n text) room (reading_listed n (tokens_of text));
      of_algorithm = λ n text room. told_of n (algorithm_reading n text) room (algorithm_listed n text);
      of_text_size = size_told;
      of_text_room = room_told;
      of_writer = λ n moves room. number_told (write_rows n moves room) tt refl;
      of_same_length = λ n moves room. number_told (same_rows n moves room) tt refl;
      of_table = λ n starts moves depth. number_told (early_rows n starts moves depth) tt refl;
      of_built = λ n starts moves depth table. number_told (early_rows n (length starts) moves depth ++ (6 when outnumbered n starts moves depth table ∷ [])) tt refl;
      of_search = λ q work out. number_told (search_rows q work out) tt refl;
    }
