-- `turn_layers`: the lines of the layers on the sides, then the two faces.
use Rattle.facelet_lanes.proofs.LaneLaws.{layers_done}
use Rattle.facelet_moves.proofs.turn_layers.Goals as goal

pub returns : goal.returns
returns g c =
    let a = c.args in
    layers_done a.n a.t a.face a.first a.count (g.T.Facelet.numbers a.cube.now) c.turn_ring.ensures c.turn_face.ensures c.turn_face-2.ensures
