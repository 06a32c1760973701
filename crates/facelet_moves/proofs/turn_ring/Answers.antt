-- `turn_ring`: the first p of the lines are done.
use Rattle.facelet_lanes.proofs.LaneLaws.{line_fits, ring_none, ring_more}
use Rattle.facelet_moves.proofs.turn_ring.Goals as goal

pub loop-p-init : goal.loop-p-init
loop-p-init g c = ring_none

pub cycle_line-requires : goal.cycle_line-requires
cycle_line-requires g c = rw c.loop-p.auto.cube (line_fits c.requires c.ring_of-lanes.ensures c.loop-p-test.true)

pub loop-p-preserved : goal.loop-p-preserved
loop-p-preserved g c = ring_more c.loop-p.invariant c.loop-p-test.true c.ring_of-lanes.ensures c.cycle_line.ensures
