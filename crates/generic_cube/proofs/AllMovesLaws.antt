-- Laws of all moves: how many there are, and the loops that store them.
use Prim.Native.Nat.{ℕ, zero, suc, ◌+◌, ◌*◌, ◌/◌, ◌<◌, ◌≤◌}
use mathlib.Core.Path.{◌≡◌, refl, ◌∙◌}
use mathlib.Core.Bool.{Bool, true, false, not, true≢false}
use mathlib.Core.List.{List, [], ◌∷◌}
use native.Mathlib.Omega.{arith}
use native.Mathlib.Nat.{zero-add}
use lib.Dec.{ltb}
use lib.ListN.{length, get_or, length-append}
use lib.Seq.{sets-eq}
use borrow.Author.Tests.{ltb-false, ltb-true, not-false}
use Rattle.ground.specs.Choice.{any}
use Rattle.ground.specs.Lists.{up_from}
use Rattle.ground.specs.Inner.{Put}
use Rattle.ground.proofs.ChoiceLaws.{bool_cases}
use Rattle.ground.proofs.PutLaws.{put_then, length-each, length_from}
use Rattle.ground.proofs.RefusalLaws.{passed}
use Rattle.generic_cube.specs.Code.{move, code_of}
use Rattle.generic_cube.specs.AllMoves.{widths_of, turns_of, moves_of, face_kinds, wide_kinds, all_moves, all_rows, all_refusal, AllMovesResult}
use Rattle.generic_cube.specs.Inner.{Kinds}
use Rattle.std.specs.Prelude.{Ok}
use Rattle.generic_cube.proofs.AnswerLaws.{answer_value_lem}
use Rattle.generic_cube.proofs.CodeLaws.{sized_bounds}

pub turn_at_lem : (t : ℕ) → t < 3 → get_or (1 ∷ 2 ∷ 3 ∷ []) t 0 ≡ t + 1
turn_at_lem zero h = refl
turn_at_lem (suc zero) h = refl
turn_at_lem (suc (suc zero)) h = refl
turn_at_lem (suc (suc (suc t))) h = absurd (omega arith)

-- a kind and turn in each width; a kind in each turn and width
pub length_widths : (xs : List ℕ) (k t : ℕ) → length (widths_of xs k t) ≡ length xs
length_widths xs k t = length-each xs (λ w. code_of (move k w t) ∷ []) 1 (λ w. refl) ∙ omega arith

pub length_turns : (xs : List ℕ) (k : ℕ) → length (turns_of xs k) ≡ 3 * length xs
length_turns xs k = length-each (1 ∷ 2 ∷ 3 ∷ []) (widths_of xs k) (length xs) (length_widths xs k)

pub length_moves : (kinds widths : List ℕ) → length (moves_of kinds widths) ≡ length kinds * (3 * length widths)
unfolding moves_of
length_moves kinds widths = length-each kinds (turns_of widths) (3 * length widths) (length_turns widths)

-- 18 + 18·(n/2 rounded down) codes
pub length_all : (n : ℕ) → length (all_moves n) ≡ 18 + 18 * (n / 2)
unfolding all_moves
length_all n =
    simp (length-append, length_moves, length_from) (omega arith)

-- no refusal: the size is in range and there is room for all
pub record AllRoom (n : ℕ) (room : ℕ) : Type 0 where
  pub size : n ≤ 104
  pub fits : 18 + 18 * (n / 2) ≤ room

pub all_room : (n room : ℕ) → all_refusal n room ≡ 0 → AllRoom n room
unfolding all_refusal
all_room n room e =
    let p = passed (all_rows n room) refl e in
    record { size = (sized_bounds n (not-false _ p.0)).1; fits = omega (arith, length_all n, ltb-false room (length (all_moves n)) p.1.0) }

-- a test that holds of each element holds at each place, past the end too where it holds of 0
pub holds_at : (p : ℕ → Bool) (xs : List ℕ) → any (λ x. not (p x)) xs ≡ false → p 0 ≡ true → (i : ℕ) → p (get_or xs i 0) ≡ true
unfolding any
holds_at p [] e z i = z
holds_at p (x ∷ xs) e z zero = bool_cases (p x) (λ t. t) (λ t. absurd (true≢false (rw t at e)))
holds_at p (x ∷ xs) e z (suc i) =
    holds_at p xs (bool_cases (p x) (λ t. rw t at e) (λ t. absurd (true≢false (rw t at e)))) z i

-- six kinds, by a computed test of the list
pub kinds_fair : (ks : List ℕ) → length ks ≡ 6 → any (λ k. not (ltb k 15)) ks ≡ false → Kinds ks
kinds_fair ks six e = record { six = six; small = λ i. ltb-true _ 15 (holds_at (λ k. ltb k 15) ks e refl i) }

pub faces_next : {out mid : List ℕ} {r : ℕ} → Put out 0 (moves_of face_kinds (0 ∷ [])) mid r → r ≡ 18
faces_next p = p.next ∙ omega (arith, length_moves face_kinds (0 ∷ []))

-- faces, then wide kinds: the whole output
pub all_stored : (n : ℕ) {out mid new : List ℕ} {r s : ℕ} → all_refusal n (length out) ≡ 0
    → Put out 0 (moves_of face_kinds (0 ∷ [])) mid r → Put mid r (moves_of wide_kinds (up_from 1 (n / 2))) new s
    → AllMovesResult n out new (Ok s)
unfolding all_moves
all_stored n {out} {mid} {new} {r} {s} z p q =
    let w : Put out 0 (all_moves n) new s = put_then p q in
    let fits : 0 + length (all_moves n) ≤ length out = omega (arith, all_room n (length out) z, length_all n) in
    let e = zero-add (length (all_moves n)) in
    answer_value_lem z (w.next ∙ e) (w.stored ∙ sets-eq (all_moves n) out 0 fits ∙ rw e)
