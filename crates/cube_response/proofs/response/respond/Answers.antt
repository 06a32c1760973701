-- `respond`: the lines are those of the input.
use Rattle.cube_response.proofs.ProgramLaws.{response_is}
use Rattle.cube_response.proofs.ResponseLaws.{responds}
use Rattle.cube_response.proofs.response.respond.Goals as goal

pub returns : goal.returns
returns c = responds (response_is _ c.first.ensures c.rest.ensures c.first-2.ensures) c.respond_to_lines.ensures
