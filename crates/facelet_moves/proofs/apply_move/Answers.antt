-- `apply_move`: the layers that the move takes, turned in place.
use mathlib.Core.Path.{◌∙◌}
use Rattle.facelet_lanes.proofs.InPlaceLaws.{apply_fits, apply_moved}
use Rattle.facelet_moves.proofs.apply_move.Goals as goal

pub turn_layers-requires : goal.turn_layers-requires
turn_layers-requires g c =
    let p = c.requires in apply_fits c.args.m p.sized p.fair c.face_number-face.ensures c.layers_of-count.ensures p.old_long

pub returns : goal.returns
returns g c =
    let a = c.args in
    let p = c.requires in
    let f = g.T.Facelet in
    apply_moved (f.numbers a.cube.now) a.m p.sized p.fair (g.met.T.Facelet.laws.long a.cube.now ∙ p.old_long) c.face_number-face.ensures c.layers_of-count.ensures c.turn_layers.ensures
