-- Simplifying and inverting keep a list one that is taken: no code and no width of the result is refused.
use Prim.Native.Nat.{ℕ}
use mathlib.Core.List.{List, [], ◌∷◌}
use native.Mathlib.Omega.{arith}
use lib.Dec.{eqb}
use borrow.Author.Tests.{eqb-false}
use Rattle.ground.proofs.ChoiceLaws.{bool_cases}
use Rattle.generic_cube.specs.Code.{turned_to, joins}
use Rattle.generic_cube.proofs.CodeLaws.{Good, AllGood, taken_good, good_taken}
use Rattle.move_lists.specs.Lists.{turn_sum, push, simplify, inverse}
use Rattle.move_lists.proofs.ListLaws.{good_turn, good_inverse}
use Rattle.theorems.specs.Notation.{SimplifyTaken, InverseTaken}

module _ (low high : ℕ) where
  good_push : (c : ℕ) (xs : List ℕ) → Good low high c → AllGood low high xs → AllGood low high (push c xs)
  unfolding push AllGood turned_to
  good_push c [] g h = (g, tt)
  good_push c (x ∷ xs) g h =
      bool_cases (joins c x)
      (λ t. bool_cases (eqb (turn_sum c x) 0)
      (λ v. rw (t, v) h.1)
      (λ v. let n = eqb-false (turn_sum c x) 0 v in rw (t, v) (good_turn low high c (turn_sum c x) (omega arith) (omega arith) g, h.1)))
      (λ t. rw t (g, h))

  good_simplify : (cs : List ℕ) → AllGood low high cs → AllGood low high (simplify cs)
  unfolding simplify AllGood
  good_simplify [] g = tt
  good_simplify (c ∷ cs) g = good_push c (simplify cs) g.0 (good_simplify cs g.1)

pub simplify_taken : SimplifyTaken
simplify_taken low high cs e = good_taken low high (simplify cs) (good_simplify low high cs (taken_good low high cs e))

pub inverse_taken : InverseTaken
inverse_taken low high cs e = good_taken low high (inverse cs) (good_inverse low high cs (taken_good low high cs e))
