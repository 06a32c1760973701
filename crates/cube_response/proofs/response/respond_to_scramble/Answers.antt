-- `respond_to_scramble`: a line has a slot for each move, so the parser never refuses for room.
use mathlib.Core.Path.{sym, ap, ◌∙◌}
use Rattle.std.specs.Prelude.{Err}
use lib.Seq.{length-take-le}
use Rattle.cube_response.specs.Program.{scramble_answer}
use Rattle.cube_response.proofs.ResponseLaws.{responds, Read, size_taken, parsed_moves, parsed_bad, parsed_never}
use Rattle.cube_response.proofs.response.respond_to_scramble.Goals as goal
use Rattle.cube_response.proofs.response.respond_to_scramble.Goals.{In-Ok}

read : (c : In-Ok) → Read c.args.n c.args.two.now c.parse_scramble.new.out c.in-Ok.count
read c = parsed_moves _ _ _ _ (size_taken c.requires.0) c.requires.1 c.in-Ok.is c.parse_scramble.ensures

pub slice_bounds-codes-end : goal.slice_bounds-codes-end
slice_bounds-codes-end c =
    (read (goal.at.slice_bounds-codes-end c).In-Ok).fits

pub slice_bounds-put_cube-end : goal.slice_bounds-put_cube-end
slice_bounds-put_cube-end c =
    sym (length-take-le _ c.parse_scramble.new.out (read (goal.at.slice_bounds-put_cube-end c).In-Ok).fits)

pub put_cube-requires : goal.put_cube-requires
put_cube-requires c =
    (c.requires.0, (read (goal.at.put_cube-requires c).In-Ok).taken)

pub returns-in-Ok : goal.returns-in-Ok
returns-in-Ok c =
    responds (ap (scramble_answer _) (read (goal.at.returns-in-Ok c).In-Ok).is) c.put_cube.ensures

pub returns-in-At : goal.returns-in-At
returns-in-At c =
    responds (ap (scramble_answer c.args.n) (parsed_bad _ _ _ _ (size_taken c.requires.0) c.requires.1 (c.in-Err.is ∙ ap Err c.in-At.is) c.parse_scramble.ensures))
    (rw c.from.ensures at c.put_refusal.ensures)

pub unreachable-requires : goal.unreachable-requires
unreachable-requires c = parsed_never _ _ _ _ (size_taken c.requires.0) c.requires.1 (c.in-Err.is ∙ ap Err c.in-Refused.is) c.parse_scramble.ensures
