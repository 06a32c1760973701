use mathlib.Core.Path.{sym}
use lib.Seq.{length-take-le}
use Rattle.cube_response.proofs.ProgramLaws.{line_within, line_is}
use Rattle.cube_response.proofs.lines.first.Goals as goal

pub slice_bounds-result-end : goal.slice_bounds-result-end
slice_bounds-result-end c = sym (length-take-le _ c.args.input.now (line_within _ c.line_end-end.ensures))

pub returns : goal.returns
returns c = line_is _ c.line_end-end.ensures
