-- `put_refusal`: its parts, one after the other.
use Rattle.cube_response.proofs.ResponseLaws.{put_parts}
use Rattle.cube_response.proofs.text.put_refusal.Goals as goal

pub returns : goal.returns
returns c = put_parts c.requires c.put-a.ensures c.put_decimal-b.ensures c.put-c.ensures c.put_decimal-d.ensures c.put.ensures
