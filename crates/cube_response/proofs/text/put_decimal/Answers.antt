-- `put_decimal`: the fewest digits that hold the number are its decimal text.
use mathlib.Core.Path.{◌∙◌}
use Prim.Native.Nat.{◌≤◌}
use lib.ListN.{length, take}
use Rattle.cube_response.proofs.ProgramLaws.{fewest_decimal, fewest_few}
use Rattle.cube_response.proofs.ResponseLaws.{put_number}
use native.Mathlib.Omega.{arith}
use Rattle.cube_response.proofs.text.put_decimal.Goals as goal

pub returns : goal.returns
returns c =
    let few : length (take c.decimal-k.result c.decimal-k.new.out) ≤ 20 =
    omega (arith, c.decimal-k.ensures.in_bounds.1, fewest_few c.args.x c.decimal-k.result c.ranges.x.fits c.decimal-k.ensures.len) in
    put_number c.put.ensures (c.decimal-k.ensures.digits ∙ fewest_decimal _ _ c.decimal-k.ensures.len) (few)
