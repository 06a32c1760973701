-- `put_solved`: the first j places are the solved cube's.
use Rattle.ground.proofs.FillLaws.{fill_none}
use Rattle.facelet_cube.proofs.CubeLaws.{show_more, show_all}
use Rattle.facelet_cube.proofs.cube.put_solved.Goals as goal

pub loop-j-init : goal.loop-j-init
loop-j-init g c = fill_none

pub loop-j-preserved : goal.loop-j-preserved
loop-j-preserved g c = show_more g.met.T.Facelet.laws c.loop-j.invariant c.loop-j-test.true c.shown_at.ensures

pub returns : goal.returns
returns g c = show_all g.met.T.Facelet.laws c.args.n c.loop-j.invariant c.loop-j-test.false c.requires.long_is
