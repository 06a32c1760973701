-- What simplified and inverted lists do to cubes.
use Prim.Native.Nat.{ℕ, zero, suc, ◌<◌}
use mathlib.Core.Path.{◌≡◌, refl, ap, sym, ◌∙◌}
use mathlib.Core.Bool.{true}
use mathlib.Core.List.{List, [], ◌∷◌}
use native.Mathlib.Omega.{arith}
use lib.Dec.{eqb}
use lib.ListN.{length}
use borrow.Author.Tests.{eqb-true, eqb-false}
use Rattle.ground.proofs.ChoiceLaws.{bool_cases}
use Rattle.generic_cube.specs.Sizes.{stickers}
use Rattle.generic_cube.specs.Code.{move_of, with_turn, back, joins}
use Rattle.generic_cube.proofs.CodeLaws.{kind_most, turn_most, move_code, move-turned, joins-move}
use Rattle.move_lists.specs.Lists.{turn_sum, joined, join, Turned, Step, here, there, Steps, done, then, inverse_of, inverse}
use Rattle.move_lists.proofs.SimplifyLaws.{join_vanish, join_stay}
use Rattle.move_lists.proofs.ListLaws.{taken_turned}
use Rattle.geometric_moves.specs.Turn.{kind_face, layers_of, takes, target, source, moved, run}
use Rattle.geometric_moves.proofs.MovedLaws.{length_moved, moved-add, moved_none, moved_back, run-append}
use Rattle.theorems.specs.Effects.{SimplifyKeeps, InverseUndoes, PlainIsWide}
use Rattle.theorems.proofs.SimplifiedLaws.{reached}

module _ (n : ℕ) (h : 0 < n) where
  -- two neighbours that join do what one move of their turns' sum does
  two : (c d s : ℕ) (l : List ℕ) → joins c d ≡ true → s ≡ turn_sum c d
      → moved n (move_of d) (moved n (move_of c) l) ≡ moved n (with_turn (move_of c) s) l
  two c d s l e t =
      let a = turn_most c in
      let b = turn_most d in
      ap (λ m. moved n m (moved n (move_of c) l)) (joins-move c d e)
      ∙ moved-add n (move_of c) (move_of c).turn (move_of d).turn s l h (omega arith) (omega arith) (omega arith) (omega arith)

  joined_effect : (c d : ℕ) (rest l : List ℕ) → length l ≡ stickers n → joins c d ≡ true → run n (c ∷ d ∷ rest) l ≡ run n (join c d rest) l
  unfolding run
  joined_effect c d rest l g e =
      bool_cases (eqb (turn_sum c d) 0)
      (λ t.
      let z : turn_sum c d ≡ 0 = eqb-true _ _ t in
      ap (run n rest) (two c d 0 l e (sym z) ∙ moved_none n (move_of c) 0 l h (omega arith) refl g)
      ∙ ap (λ x. run n x l) (sym (join_vanish c d rest z)))
      (λ t.
      let m : move_of (joined c d) ≡ with_turn (move_of c) (turn_sum c d) = move-turned c (turn_sum c d) (omega arith) in
      ap (run n rest) (two c d (turn_sum c d) l e refl ∙ ap (λ x. moved n x l) (sym m))
      ∙ ap (λ x. run n x l) (sym (join_stay c d rest (eqb-false _ _ t))))

  -- one joining, wherever it is, keeps the effect, and so do any number of them
  step_effect : {xs ys : List ℕ} → Step xs ys → (l : List ℕ) → length l ≡ stickers n → run n xs l ≡ run n ys l
  unfolding run
  step_effect (here c d rest e) l g = joined_effect c d rest l g e
  step_effect (there c s) l g = step_effect s (moved n (move_of c) l) (length_moved n (move_of c) l)

  steps_effect : {xs ys : List ℕ} → Steps xs ys → (l : List ℕ) → length l ≡ stickers n → run n xs l ≡ run n ys l
  steps_effect (done xs) l g = refl
  steps_effect (then s r) l g = step_effect s l g ∙ steps_effect r l g

  -- the inverse of a code is its move back
  inverse-move : (c : ℕ) → 0 < (move_of c).turn → move_of (inverse_of c) ≡ back (move_of c)
  unfolding inverse_of
  inverse-move c t = move_code (back (move_of c)) (kind_most c) (omega arith)

  -- so it leads back
  pub code_undone : (c : ℕ) (l : List ℕ) → 0 < (move_of c).turn → length l ≡ stickers n → moved n (move_of (inverse_of c)) (moved n (move_of c) l) ≡ l
  code_undone c l t g =
      let b = turn_most c in
      ap (λ m. moved n m (moved n (move_of c) l)) (inverse-move c t) ∙ moved_back n (move_of c) l h (omega arith) g

  run-inverse : (cs l : List ℕ) → Turned cs → length l ≡ stickers n → run n (inverse cs) (run n cs l) ≡ l
  unfolding run inverse
  run-inverse [] l t g = refl
  run-inverse (c ∷ cs) l t g =
      run-append n (inverse cs) (inverse_of c ∷ []) (run n cs (moved n (move_of c) l))
      ∙ ap (moved n (move_of (inverse_of c))) (run-inverse cs (moved n (move_of c) l) t.1 (length_moved n (move_of c) l))
      ∙ code_undone c l t.0 g

pub simplify_keeps : SimplifyKeeps
simplify_keeps n cs cube h g = sym (steps_effect n h (reached cs) cube g)

pub inverse_undoes : InverseUndoes
inverse_undoes n cs cube h e g = run-inverse n h cs cube (taken_turned n cs e) g

pub plain_is_wide : PlainIsWide
unfolding moved source target takes layers_of kind_face
plain_is_wide n zero t cube h = refl
plain_is_wide n (suc zero) t cube h = refl
plain_is_wide n (suc (suc zero)) t cube h = refl
plain_is_wide n (suc (suc (suc zero))) t cube h = refl
plain_is_wide n (suc (suc (suc (suc zero)))) t cube h = refl
plain_is_wide n (suc (suc (suc (suc (suc zero))))) t cube h = refl
plain_is_wide n (suc (suc (suc (suc (suc (suc p)))))) t cube h = absurd (omega arith)
