-- `turn_solved`: neither call refuses.
use Rattle.cube_response.proofs.ResponseLaws.{turned_solved}
use Rattle.cube_response.proofs.response.turn_solved.Goals as goal

pub returns : goal.returns
returns c =
    turned_solved c.requires c.solved.ensures c.solved.auto.cube c.apply_moves.ensures
