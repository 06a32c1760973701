-- `pruning_table`: an early refusal, states that have no room, or the table.
use native.Mathlib.Omega.{arith}
use mathlib.Core.Path.{◌≡◌, ap, ◌∙◌}
use Prim.Native.Nat.{ℕ}
use lib.ListN.{length, replicate}
use Rattle.ground.proofs.RefusalLaws.{passed_on}
use Rattle.generic_cube.proofs.AnswerLaws.{done_number}
use Rattle.pruning_table.specs.PruningTable.{early_refusal}
use Rattle.table_level.proofs.SizeLaws.{cube_some}
use Rattle.pruning_table.proofs.ResultLaws.{early_ready, result_refused, result_over, result_exact}
use Rattle.pruning_table.proofs.pruning_table.Goals as goal
use Rattle.pruning_table.proofs.pruning_table.Goals.{In_ok-check_early}

-- nothing was refused before building
good : (c : In_ok-check_early) → early_refusal c.args.n (length c.args.starts.now) c.args.moves.now c.args.depth ≡ 0
good c = done_number _ c.in_ok-check_early.ensures

pub returns-in_err-check_early : goal.returns-in_err-check_early
returns-in_err-check_early c = rw (passed_on _ c.from_residual.ensures.1) (result_refused _ _ _ _ _ c.in_err-check_early.ensures)

pub overflow_cast-job : goal.overflow_cast-job
overflow_cast-job c = omega (arith, (early_ready _ _ _ _ (good (goal.at.overflow_cast-job c).In_ok-check_early)).shallow)

pub invariant_of-job : goal.invariant_of-job
invariant_of-job c = record { ready = early_ready _ _ _ _ (good (goal.at.invariant_of-job c).In_ok-check_early) }

pub returns-in_default : goal.returns-in_default
returns-in_default c =
    result_over _ _ _ _ _ (good (goal.at.returns-in_default c).In_ok-check_early) c.in_default.ensures
    (c.fill-in_default.ensures.after (λ y q. q) ∙ ap (λ (k : ℕ). replicate k 0) c.fill.auto.table)

pub returns : goal.returns
returns c =
    let e = (good (goal.at.returns c).In_ok-check_early) in
    result_exact _ _ _ _ _ e (omega (arith, cube_some (early_ready _ _ _ _ e).turning.some)) c.in-Some.ensures
