-- The promises of the builder: its table is exact, 6 is given exactly where it has no room, and it is admissible where the candidates
-- undo themselves.
use Prim.Native.Nat.{ℕ, ◌+◌, ◌*◌, ◌≤◌, ◌<◌}
use mathlib.Core.Path.{◌≡◌, refl, sym, ap, ap₂, subst, ◌∙◌}
use mathlib.Core.Bool.{Bool, true, false, true≢false}
use mathlib.Core.Logic.{⊎_elim}
use mathlib.Core.List.Memᴰ
use mathlib.Core.List.{List, [], ◌∷◌, Memᴰ}
use native.Mathlib.Omega.{arith}
use lib.Dec.{eqb}
use lib.ListN.{length, take, drop, replicate}
use lib.Seq.{take_at}
use borrow.Author.Tests.{eqb-true, eqb-false, ltb-true, ltb-false}
use Rattle.std.specs.Prelude.{Result, Ok, Err}
use Rattle.ground.specs.declared.refusals.Refusal.{Refusal}
use Rattle.ground.specs.declared.refusals.Refusal.TheVariants.{Room, Level}
use Rattle.ground.proofs.RefusalLaws.{number_only}
use Rattle.ground.specs.Choice.{pick, any, all}
use Rattle.ground.specs.Lists.{over}
use Rattle.ground.specs.Refusals.{Row, lowest, refusal}
use Rattle.ground.proofs.ChoiceLaws.{bool_cases}
use Rattle.generic_cube.specs.Sizes.{stickers}
use Rattle.generic_cube.specs.Code.{code_of, move_of}
use Rattle.move_lists.specs.Lists.{Turned, inverse_of}
use Rattle.geometric_moves.specs.Turn.{moved, run}
use Rattle.geometric_moves.proofs.MovedLaws.{moved_back}
use Rattle.table.specs.Table.{bytes, entry_count, well_formed}
use Rattle.table.proofs.EntryListLaws.{length-bytes}
use Rattle.search_theory.specs.Search.{Admissible}
use Rattle.search_theory.specs.CubeSearch.{cube_task, Cube}
use Rattle.table_theory.specs.Built.{table_of}
use Rattle.table_theory.specs.Exact.{Exactly, Outnumber}
use Rattle.table_theory.proofs.ExactLaws.{table_long, over_exact, outnumbers, none_fits, one_count, one_buffer}
use Rattle.table_theory.proofs.MemberLaws.{same_members}
use Rattle.admissible_theory.proofs.AdmissibleLaws.{used_formed, built_admissible}
use Rattle.admissible_theory.proofs.LevelsLaws.{Undone}
use Rattle.table_level.proofs.SizeLaws.{cube_some}
use Rattle.pruning_table.specs.PruningTable.{early_rows, early_refusal, outnumbered, pruning_out, PruningTableResult}
use Rattle.pruning_table.proofs.ResultLaws.{early_ready, refusal_early, refusal_late}
use Rattle.theorems.specs.Searching.{BuiltIsExact, OneTable, BuiltIsFormed, FullExactly, BuiltOtherwise, FullIsZero, RefusedIsKept, SameMembers, UndoneBy, UndoThemselves, holds_inverses, InversesUndo, WideOneUndoes, BuiltAdmits}
use Rattle.theorems.proofs.EffectLaws.{code_undone, plain_is_wide}
use Rattle.move_lists.proofs.ListLaws.{taken_turned}

-- a number that no row has is not answered
abbrev avoids : ℕ → List Row → Bool
avoids k [] = true
avoids k (r ∷ rows) = pick (eqb r.number k) false (avoids k rows)

lowest-avoids : (k : ℕ) (rows : List Row) → (0 ≡ k → ⊥) → avoids k rows ≡ true → lowest rows ≡ k → ⊥
unfolding lowest
lowest-avoids k [] z a e = z e
lowest-avoids k (r ∷ rows) z a e =
    bool_cases (eqb r.number k)
    (λ t. true≢false (sym (rw t at a)))
    (λ t.
    bool_cases r.applies
    (λ u. eqb-false r.number k t (rw u at e))
    (λ u. lowest-avoids k rows z (rw t at a) (rw u at e)))

-- no early refusal is 6
early_not_six : (n starts : ℕ) (moves : List ℕ) (depth : ℕ) → early_refusal n starts moves depth ≡ 6 → ⊥
unfolding early_refusal
early_not_six n starts moves depth e = lowest-avoids 6 (early_rows n starts moves depth) (λ z. omega arith) refl e

room_no_level : Room ≡ Level → ⊥
room_no_level e = let z : ◌≡◌ {A = ℕ} 0 1 = cc in omega arith

module _ {n : ℕ} {starts moves : List ℕ} {depth : ℕ} {t t' : List ℕ} where
  -- the three ways in which a call ends
  pub result_cases {ℓ} : {A : Type ℓ} {r : Result ℕ Refusal} → PruningTableResult n starts moves depth t t' r
      → ((early_refusal n (length starts) moves depth ≡ 0 → ⊥) → r ≡ Err (refusal (early_refusal n (length starts) moves depth)) → t' ≡ t → A)
      → (early_refusal n (length starts) moves depth ≡ 0 → entry_count (stickers n) t < length (table_of n starts moves depth) → r ≡ Err Room
      → t' ≡ replicate (length t) 0 → A)
      → (early_refusal n (length starts) moves depth ≡ 0 → length (table_of n starts moves depth) ≤ entry_count (stickers n) t
      → r ≡ Ok (length (table_of n starts moves depth)) → t' ≡ over (bytes (table_of n starts moves depth)) t → A)
      → A
  unfolding pruning_out
  result_cases p f g h =
      bool_cases (eqb (early_refusal n (length starts) moves depth) 0)
      (λ e.
      let z = eqb-true _ _ e in
      bool_cases (outnumbered n starts moves depth t)
      (λ o. g z (ltb-true _ _ o) (rw (refusal_late n starts moves depth t z, o) at p.answered) (rw (e, o) at p.left))
      (λ o. h z (ltb-false _ _ o) (rw (refusal_late n starts moves depth t z, o) at p.answered) (rw (e, o) at p.left)))
      (λ e.
      let z = eqb-false _ _ e in
      f z (rw (refusal_early n starts moves depth t z, e) at p.answered) (rw e at p.left))

  -- a table is built of cubes of size 1 or more
  result_some : {count : ℕ} → PruningTableResult n starts moves depth t t' (Ok count) → 1 ≤ n
  result_some p =
      result_cases p
      (λ e r w. let z : ◌≡◌ {A = ℕ} 0 1 = cc in absurd (omega arith))
      (λ e o r w. (early_ready n (length starts) moves depth e).turning.some)
      (λ e o r w. (early_ready n (length starts) moves depth e).turning.some)

  -- a count: the buffer meets the rule
  pub exact_result : {count : ℕ} → PruningTableResult n starts moves depth t t' (Ok count) → Exactly n starts moves depth t t' count
  exact_result {count} p =
      result_cases p
      (λ e r w. let z : ◌≡◌ {A = ℕ} 0 1 = cc in absurd (omega arith))
      (λ e o r w. let z : ◌≡◌ {A = ℕ} 0 1 = cc in absurd (omega arith))
      (λ e o r w.
      let c : count ≡ length (table_of n starts moves depth) = cc in
      let some = cube_some (early_ready n (length starts) moves depth e).turning.some in
      subst (λ (k : ℕ). Exactly n starts moves depth t t' k) (sym c)
      (subst (λ (l : List ℕ). Exactly n starts moves depth t l (length (table_of n starts moves depth))) (sym w)
      (over_exact n starts moves depth (omega arith) t o)))

  -- 6: the states outnumber the entries that fit, and the whole buffer is zero
  full_result : PruningTableResult n starts moves depth t t' (Err Room)
      → Outnumber n starts moves depth (entry_count (stickers n) t) × (t' ≡ replicate (length t) 0)
  full_result p =
      result_cases p
      (λ e r w. let z : Room ≡ refusal (early_refusal n (length starts) moves depth) = cc in absurd (early_not_six n (length starts) moves depth (number_only _ Room (sym z) room_no_level)))
      (λ e o r w.
      let some = cube_some (early_ready n (length starts) moves depth e).turning.some in
      (outnumbers n starts moves depth (omega arith) o, w))
      (λ e o r w. let z : ◌≡◌ {A = ℕ} 0 1 = cc in absurd (omega arith))

  -- any other refusal changes nothing
  kept_result : {k : Refusal} → (k ≡ Room → ⊥) → PruningTableResult n starts moves depth t t' (Err k) → t' ≡ t
  kept_result {k} h p =
      result_cases p
      (λ e r w. w)
      (λ e o r w. let z : k ≡ Room = cc in absurd (h z))
      (λ e o r w. let z : ◌≡◌ {A = ℕ} 0 1 = cc in absurd (omega arith))

  -- and where nothing else is refused it is 6 exactly if they outnumber them
  module _ {r : Result ℕ Refusal} (e : early_refusal n (length starts) moves depth ≡ 0) (p : PruningTableResult n starts moves depth t t' r) where
    full_if : Outnumber n starts moves depth (entry_count (stickers n) t) → r ≡ Err Room
    full_if o =
        result_cases p
        (λ f q w. absurd (f e))
        (λ z l q w. q)
        (λ z l q w. absurd (none_fits (exact_result (subst (PruningTableResult n starts moves depth t t') q p)) o))

    built_if : (Outnumber n starts moves depth (entry_count (stickers n) t) → ⊥) → r ≡ Ok (length (table_of n starts moves depth))
    built_if h =
        result_cases p
        (λ f q w. absurd (f e))
        (λ z l q w.
        let some = cube_some (early_ready n (length starts) moves depth z).turning.some in
        absurd (h (outnumbers n starts moves depth (omega arith) l)))
        (λ z l q w. q)

  -- the used part is the table's bytes, as the search takes them
  used_part : {count : ℕ} → PruningTableResult n starts moves depth t t' (Ok count) → take (count * (stickers n + 1)) t' ≡ bytes (table_of n starts moves depth)
  used_part {count} p =
      result_cases p
      (λ e r w. let z : ◌≡◌ {A = ℕ} 0 1 = cc in absurd (omega arith))
      (λ e o r w. let z : ◌≡◌ {A = ℕ} 0 1 = cc in absurd (omega arith))
      (λ e o r w.
      let c : count ≡ length (table_of n starts moves depth) = cc in
      let some = cube_some (early_ready n (length starts) moves depth e).turning.some in
      let l = length-bytes (stickers n) (table_of n starts moves depth) (table_long n starts moves depth (omega arith)) in
      ap₂ (λ (k : ℕ) (b : List ℕ). take (k * (stickers n + 1)) b) c w
      ∙ take_at (bytes (table_of n starts moves depth)) (drop (length (bytes (table_of n starts moves depth))) t) (length (table_of n starts moves depth) * (stickers n + 1)) l)

pub built_is_exact : BuiltIsExact
built_is_exact n starts moves depth table table' count p = exact_result p

pub one_table : OneTable
one_table n starts moves depth table one two c d a b = (one_count a b, one_buffer a b)

pub built_is_formed : BuiltIsFormed
built_is_formed n starts moves depth table table' count p =
    let some = result_some p in
    ap (well_formed (stickers n)) (used_part p) ∙ used_formed n starts moves depth (omega (arith, cube_some some))

pub full_exactly : FullExactly
full_exactly n starts moves depth table table' r e p = (λ q. (full_result (subst (PruningTableResult n starts moves depth table table') q p)).0, full_if e p)

pub built_otherwise : BuiltOtherwise
built_otherwise n starts moves depth table table' r e p h = built_if e p h

pub full_is_zero : FullIsZero
full_is_zero n starts moves depth table table' p = (full_result p).1

pub refused_is_kept : RefusedIsKept
refused_is_kept n starts moves depth table table' k h p = kept_result h p

pub members_alone : SameMembers
members_alone n starts starts' moves moves' depth f f' g g' = same_members n depth f f' g g'

-- candidates that undo themselves, as the search's states are moved
undone_there : (n : ℕ) (table : List ℕ) (depth : ℕ) (moves : List ℕ) → UndoThemselves n moves → (c : ℕ) → Memᴰ c moves
    → Undone (cube_task n table depth moves) (Cube n) c
unfolding run
undone_there n table depth moves u c m = let i = u c m in record { inverse = i.code; candidate = i.candidate; undoes = i.undoes }

pub built_admits : BuiltAdmits
built_admits q starts table table' count p is u =
    let some = result_some p in
    let t : List ℕ = bytes (table_of q.n starts q.candidates q.depth) in
    subst (λ (l : List ℕ). Admissible (cube_task q.n l q.depth q.candidates) (Cube q.n)) (sym (is ∙ used_part p))
    (built_admissible q.n starts q.candidates q.depth (omega (arith, cube_some some)) (undone_there q.n t q.depth q.candidates u))

-- ---- the test by codes

-- a list that has the number somewhere, and a test of every element at one of them
any_member : (b : ℕ) (xs : List ℕ) → any (λ d. eqb d b) xs ≡ true → Memᴰ b xs
unfolding any
any_member b [] e = absurd (true≢false (sym e))
any_member b (x ∷ xs) e =
    bool_cases (eqb x b)
    (λ t. Memᴰ.head (sym (eqb-true x b t)))
    (λ t. Memᴰ.tail (any_member b xs (rw t at e)))

all_member : (p : ℕ → Bool) (xs : List ℕ) → all p xs ≡ true → (x : ℕ) → Memᴰ x xs → p x ≡ true
unfolding all
all_member p [] e x m = absurd (Memᴰ.not-nil m)
all_member p (y ∷ ys) e x m =
    bool_cases (p y)
    (λ t. ⊎_elim (λ (z : x ≡ y). ap p z ∙ t) (λ w. all_member p ys (rw t at e) x w) (Memᴰ.cases_cons m))
    (λ t. absurd (true≢false (sym (rw t at e))))

turned_member : (cs : List ℕ) → Turned cs → (c : ℕ) → Memᴰ c cs → 0 < (move_of c).turn
turned_member [] t c m = absurd (Memᴰ.not-nil m)
turned_member (d ∷ ds) t c m =
    ⊎_elim (λ (z : c ≡ d). subst (λ (x : ℕ). 0 < (move_of x).turn) (sym z) t.0) (λ w. turned_member ds t.1 c w) (Memᴰ.cases_cons m)

pub inverses_undo : InversesUndo
unfolding holds_inverses run
inverses_undo n moves h e t c m =
    record {
      code = inverse_of c;
      candidate = any_member (inverse_of c) moves (all_member (λ x. any (λ d. eqb d (inverse_of x)) moves) moves t c m);
      undoes = λ cube g. code_undone n h c cube (turned_member moves (taken_turned n moves e) c m) g;
    }

-- ---- U and Uw' of width 1

pub wide_one_undoes : WideOneUndoes
unfolding holds_inverses inverse_of code_of move_of any all run
wide_one_undoes n h = (each, refl)
  where
    back_wide : (cube : List ℕ) → length cube ≡ stickers n → moved n (move_of 91) (moved n (move_of 1) cube) ≡ cube
    back_wide cube g = plain_is_wide n 0 3 (moved n (move_of 1) cube) (omega arith) ∙ moved_back n (move_of 1) cube h (omega arith) g

    back_plain : (cube : List ℕ) → length cube ≡ stickers n → moved n (move_of 1) (moved n (move_of 91) cube) ≡ cube
    back_plain cube g = sym (plain_is_wide n 0 1 (moved n (move_of 91) cube) (omega arith)) ∙ moved_back n (move_of 91) cube h (omega arith) g

    each : UndoThemselves n (1 ∷ 91 ∷ [])
    each c m =
        ⊎_elim
        (λ (e : c ≡ 1). subst (UndoneBy n (1 ∷ 91 ∷ [])) (sym e) (record { code = 91; candidate = Memᴰ.tail (Memᴰ.head refl); undoes = back_wide }))
        (λ (w : Memᴰ c (91 ∷ [])). ⊎_elim
        (λ (e : c ≡ 91). subst (UndoneBy n (1 ∷ 91 ∷ [])) (sym e) (record { code = 1; candidate = Memᴰ.head refl; undoes = back_plain }))
        (λ (z : Memᴰ c []). absurd (Memᴰ.not-nil z)) (Memᴰ.cases_cons w))
        (Memᴰ.cases_cons m)
