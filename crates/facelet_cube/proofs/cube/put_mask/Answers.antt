-- `put_mask`: the first j places are masked, the others as they were.
use Rattle.facelet_cube.proofs.CubeLaws.{mask_put}
use Rattle.facelet_cube.proofs.cube.put_mask.Goals as goal

pub returns : goal.returns
returns c =
    let a = c.args in
    mask_put a.n a.ids.now a.keep.now c.loop-j.invariant c.loop-j-test.false c.requires.cube_long
