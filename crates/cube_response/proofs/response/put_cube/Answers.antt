-- `put_cube`: a cube of size 20 has 2,400 bytes.
use Prim.Native.Nat.{◌≤◌, ◌<◌}
use mathlib.Core.Path.{◌≡◌, ◌∙◌}
use lib.ListN.{length}
use lib.Seq.{length-take-le}
use Rattle.generic_cube.specs.Sizes.{stickers}
use Rattle.cube_response.proofs.ResponseLaws.{twenty, cube_fed}
use native.Mathlib.Omega.{arith}
use Rattle.cube_response.proofs.response.put_cube.Goals as goal

pub returns : goal.returns
returns c =
    let below : stickers c.args.n < length c.args.out.now =
    let h = twenty c.requires.0.most in omega (arith, c.requires.0.long) in
    let fits : stickers c.args.n ≤ length c.args.out.now =
    let h = below in omega arith in
    let long : length c.turn_solved.new.cube ≡ stickers c.args.n =
    c.turn_solved.auto.cube ∙ length-take-le _ c.args.out.now (fits) in
    cube_fed c.turn_solved.new.cube c.args.out.now c.turn_solved.ensures (long) (below)
