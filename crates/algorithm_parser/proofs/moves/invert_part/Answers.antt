use native.Mathlib.Omega.{arith}
use lib.ListN.{take, drop, length-drop}
use lib.Seq.{length-take-le}
use Rattle.move_lists.proofs.ListLaws.{length-inverse}
use Rattle.algorithm_parser.proofs.RoomLaws.{move_none, invert_more, move_all}
use Rattle.algorithm_parser.proofs.moves.invert_part.Goals as goal

-- `invert_part`: the first k codes of the part's inverse are stored; the part itself lies before them.
pub loop-k-init : goal.loop-k-init
loop-k-init c = move_none

pub loop-k-preserved : goal.loop-k-preserved
loop-k-preserved c = let a = c.args in invert_more a.out.now _ a.j a.to a.size _ c.loop-k-test.true c.requires.0 c.requires.1 c.loop-k.invariant c.inverse_code.ensures

pub returns : goal.returns
returns c = let a = c.args in
    let l = length-take-le a.size (drop a.j a.out.now) (omega (arith, c.requires, length-drop a.j a.out.now)) in
    let m = length-inverse (take a.size (drop a.j a.out.now)) in
    record { before = c.loop-k.invariant.before; stored = move_all c.loop-k.invariant (omega arith) }
