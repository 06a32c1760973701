-- `put_text`: the first token, then a space and a token for each further code.
use native.Mathlib.Omega.{arith}
use Rattle.ground.proofs.PutLaws.{put_room}
use Rattle.scramble_writer.proofs.WriteLaws.{text_length, put_empty, put_text}
use Rattle.scramble_writer.proofs.put_text.Goals as goal

pub returns-in_default : goal.returns-in_default
returns-in_default c = put_empty _ c.in_default.ensures.cases

pub put_code-at-requires : goal.put_code-at-requires
put_code-at-requires c = omega (arith, text_length c.in-Some.ensures.cases.0, c.requires)

pub put_rest-requires : goal.put_rest-requires
put_rest-requires c = put_room _ c.put_code-at.ensures (omega (arith, text_length c.in-Some.ensures.cases.0, c.requires))

pub returns : goal.returns
returns c = put_text c.in-Some.ensures.cases.0 c.put_code-at.ensures c.put_rest.ensures
