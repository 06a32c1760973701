use Prim.Native.Nat.{◌%◌}
use mathlib.Core.Path.{◌≡◌, ◌∙◌}
use native.Mathlib.Omega.{arith}
use Rattle.facelet_lanes.specs.InnerLanes.{lane_of, ring_lane}
use Rattle.facelet_lanes.proofs.Frame.ring_lane.Goals as goal

pub returns : goal.returns
unfolding ring_lane
returns c =
    let m : c.args.k % 4 ≡ c.args.k = omega arith in
    let e = c.edge_at-face.ensures in
    rw m (c.lane.ensures ∙ (λ i. lane_of c.args.self.now.n (e.face.0 i) (e.edge.0 i)))
