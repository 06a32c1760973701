-- `child`: the cube to which the candidate leads is entered.
use native.Mathlib.Omega.{arith}
use mathlib.Core.Path.{◌≡◌, refl, sym, ap, ap₂, ◌∙◌}
use Prim.Native.Nat.{ℕ}
use mathlib.Core.List.{List}
use lib.ListN.{length}
use Rattle.std.specs.Prelude.{Result, Ok, Err, IsOk}
use Rattle.ground.specs.declared.refusals.Refusal.{Refusal}
use Rattle.ground.proofs.ListLaws.{member_place}
use Rattle.generic_cube.specs.declared.Move.{Move}
use Rattle.generic_cube.specs.Code.{move_of, read_code}
use Rattle.generic_cube.specs.Inner.{Fair}
use Rattle.generic_cube.proofs.CodeLaws.{list_taken, list_reads}
use Rattle.geometric_moves.specs.Turn.{moved}
use Rattle.table.proofs.TableLaws.{length_key}
use Rattle.table_level.proofs.LevelLaws.{child_entered}
use Rattle.table_level.proofs.child.Goals as goal
use Rattle.table_level.proofs.child.Goals.{After-unwrap-turn}

-- what is no refusal can be taken
no_refusal : (a : Result Move Refusal) → ((r : Refusal) → a ≡ Err r → ⊥) → IsOk a
no_refusal (Ok m) f = refl
no_refusal (Err r) f = absurd (f r refl)

-- the code is taken apart as its move
taken : (c : After-unwrap-turn) → (c.unwrap-turn.result ≡ move_of c.args.code) × Fair c.args.job.n c.unwrap-turn.result
taken c =
    let w = c.args.job.ready.turning in
    let p = member_place 0 c.requires.0 in
    rw p.is at (list_taken c.args.job.n c.args.job.moves.now w.good w.some p.within (sym c.unwrap-turn.ensures ∙ c.read_code.ensures ∙ ap read_code (sym p.is)))

pub unwrap-turn-requires : goal.unwrap-turn-requires
unwrap-turn-requires c =
    let w = c.args.job.ready.turning in
    let p = member_place 0 c.requires.0 in
    no_refusal _ (λ r e. list_reads c.args.job.n c.args.job.moves.now w.good p.within (sym e ∙ c.read_code.ensures ∙ ap read_code (sym p.is)))

pub compute_permutation-requires : goal.compute_permutation-requires
compute_permutation-requires c =
    let w = c.args.job.ready.turning in
    record {
      sized = record { some = w.some; size = omega (arith, w.size) };
      fair = (taken (goal.at.compute_permutation-requires c).After-unwrap-turn).1;
      old_long = ap length c.key.ensures ∙ length_key _ _ _ (omega (arith, c.requires.2.room, c.requires.3));
      new_long = c.requires.1;
    }

pub returns : goal.returns
returns c =
    child_entered c.args.code _ _ c.requires.0
    (c.compute_permutation.ensures ∙ ap₂ (λ (m : Move) (s : List ℕ). moved c.args.job.n m s) (taken (goal.at.returns c).After-unwrap-turn).0 c.key.ensures)
    c.enter.ensures
