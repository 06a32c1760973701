-- How the code finds the lowest of these rows: 1, the rows of a list, then 6 for an output that is too short.
use Prim.Native.Nat.{ℕ, ◌<◌, ◌≤◌}
use mathlib.Core.Path.{◌≡◌, sym, ap, ◌∙◌}
use mathlib.Core.Bool.{true, false, not}
use mathlib.Core.List.{List, [], ◌∷◌, ◌++◌}
use lib.Dec.{ltb}
use borrow.Author.Tests.{lt-ltb, le-ltb}
use Rattle.std.specs.Prelude.{Ok, Err}
use Rattle.ground.specs.declared.refusals.Refusal.{Refusal}
use Rattle.ground.specs.declared.refusals.Refusal.TheVariants.{Size, Room}
use Rattle.ground.specs.Refusals.{Row, ◌when◌, lowest}
use Rattle.ground.proofs.RefusalLaws.{ordered, passed, lowest-front, lowest_behind}
use Rattle.generic_cube.specs.Sizes.{sized}
use Rattle.generic_cube.specs.Answers.{done}
use Rattle.generic_cube.proofs.AnswerLaws.{err_number, done_number}

module _ (n need room : ℕ) (rows : List Row) where
  abbrev pub fill_rows : List Row
  fill_rows = 1 when not (sized n) ∷ (rows ++ (6 when ltb room need ∷ []))

  pub fill_size : sized n ≡ false → Err Size ≡ done (lowest fill_rows)
  unfolding lowest
  fill_size s = rw s

  module _ (s : sized n ≡ true) where
    pub fill_list : {r : Refusal} → Err r ≡ done (lowest rows) → Err r ≡ done (lowest fill_rows)
    unfolding lowest
    fill_list e = rw s (e ∙ ap done (sym (lowest-front rows (6 when ltb room need ∷ []) (err_number (lowest rows) tt e).0)))

    module _ (o : ordered 1 rows ≡ true) {x : Unit {0}} (e : Ok x ≡ done (lowest rows)) where
      behind_rows : lowest fill_rows ≡ lowest (6 when ltb room need ∷ [])
      unfolding lowest
      behind_rows = rw s (lowest_behind rows (6 when ltb room need ∷ []) (passed rows o (done_number (lowest rows) e)))

      pub fill_short : room < need → Err Room ≡ done (lowest fill_rows)
      unfolding lowest
      fill_short h = sym (ap done behind_rows ∙ rw (lt-ltb room need h))

      pub fill_fits : need ≤ room → Ok tt ≡ done (lowest fill_rows)
      unfolding lowest
      fill_fits h = sym (ap done behind_rows ∙ rw (le-ltb room need h))
