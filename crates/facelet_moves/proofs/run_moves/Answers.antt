-- `run_moves`: what is left of the list, run on the cube as it is, gives what the whole list gives.
use mathlib.Core.Path.{sym, ◌∙◌}
use Rattle.facelet_cube.proofs.ApplyLaws.{runs_more, runs_all}
use Rattle.generic_cube.proofs.CodeLaws.{list_taken, list_reads}
use Rattle.facelet_moves.proofs.run_moves.Goals as goal

pub unreachable-requires : goal.unreachable-requires
unreachable-requires g c =
    let a = c.args in list_reads a.n a.moves.now c.requires.list c.loop-code-test.true (sym c.in_default.is ∙ c.read_code.ensures)

pub apply_move-requires : goal.apply_move-requires
apply_move-requires g c =
    let a = c.args in
    let l = c.loop-code in
    let m = list_taken a.n a.moves.now c.requires.list c.requires.size.some c.loop-code-test.true (sym c.in-Ok.is ∙ c.read_code.ensures) in
    let e = l.auto.cube ∙ c.requires.cube_long in
    record { sized = c.requires.size; fair = m.1; old_long = e; new_long = e }

pub loop-code-preserved : goal.loop-code-preserved
loop-code-preserved g c =
    let a = c.args in
    let m = list_taken a.n a.moves.now c.requires.list c.requires.size.some c.loop-code-test.true (sym c.in-Ok.is ∙ c.read_code.ensures) in
    runs_more c.loop-code.invariant c.loop-code-test.true m.0 c.apply_move.ensures

pub returns : goal.returns
returns g c = runs_all c.loop-code.invariant c.loop-code-test.false
