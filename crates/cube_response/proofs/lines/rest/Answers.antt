use Rattle.cube_response.proofs.ProgramLaws.{line_within, behind_feed, behind_none}
use Rattle.cube_response.proofs.lines.rest.Goals as goal

pub returns-then-end-input : goal.returns-then-end-input
returns-then-end-input c = behind_feed _ c.line_end-end.ensures

pub slice_bounds-result-count-2 : goal.slice_bounds-result-count-2
slice_bounds-result-count-2 c = line_within _ c.line_end-end.ensures

pub slice_bounds-result-start-2 : goal.slice_bounds-result-start-2
slice_bounds-result-start-2 c = line_within _ c.line_end-end.ensures

pub returns : goal.returns
returns c = behind_none _ c.line_end-end.ensures c.if-end-input.false
