-- `cycle_line`: the first q places of the line are done.
use Rattle.facelet_lanes.proofs.LaneLaws.{line_none}
use Rattle.facelet_moves.proofs.MoveLaws.{cell_more}
use Rattle.facelet_moves.proofs.cycle_line.Goals as goal

pub loop-q-init : goal.loop-q-init
loop-q-init g c = line_none

pub loop-q-preserved : goal.loop-q-preserved
loop-q-preserved g c =
    let l = c.loop-q in
    cell_more g.met.T.Facelet.laws l.invariant c.requires l.auto.cube c.loop-q-test.true
    c.place-i.ensures c.place-j.ensures c.place-k.ensures c.place-e.ensures
    c.index-cube-i.is c.index-cube-j.is c.index-cube-k.is c.index-cube-e.is
    c.prior.ensures c.prior-in-loop-q.ensures c.prior-in-loop-q-2.ensures c.prior-in-loop-q-3.ensures
