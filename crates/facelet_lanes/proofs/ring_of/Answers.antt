use Prim.Native.Nat.{ℕ}
use mathlib.Core.Path.{ap, ◌∙◌}
use Rattle.facelet_lanes.specs.declared.Frame.{Frame}
use Rattle.facelet_lanes.specs.InnerLanes.{ring_lane}
use Rattle.facelet_lanes.proofs.ring_of.Goals as goal

pub returns : goal.returns
returns c =
    let e = ap (λ (f : Frame). f.n) c.new-frame.ensures in
    let at = λ (k : ℕ). ap (λ (n : ℕ). ring_lane n c.args.ring k) e in
    let a = c.ring_lane.ensures ∙ at 0 in
    let b = c.ring_lane-2.ensures ∙ at 1 in
    let g = c.ring_lane-3.ensures ∙ at 2 in
    let d = c.ring_lane-4.ensures ∙ at 3 in
    λ i. record { a = a i; b = b i; c = g i; d = d i }
