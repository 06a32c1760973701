-- `invert_into`: the first j codes of the inverse are stored.
use mathlib.Core.Path.{refl, ap, ◌∙◌}
use lib.Seq.{sets}
use Rattle.ground.proofs.PutLaws.{loop_none, loop_more, loop_all, put_one, each_self}
use Rattle.move_lists.specs.Lists.{inverse}
use Rattle.move_lists.proofs.ListLaws.{length-inverse, inverse-next}
use native.Mathlib.Omega.{arith}
use Rattle.move_lists.proofs.invert_into.Goals as goal

pub loop-j-init : goal.loop-j-init
loop-j-init c = loop_none

pub loop-j-preserved : goal.loop-j-preserved
loop-j-preserved c =
    let list = c.args.list.now in
    let l = length-inverse list in
    loop_more c.loop-j.invariant (omega arith) refl
    (put_one (inverse-next list c.requires.1 c.loop-j-test.true c.inverse_code.ensures))

pub returns : goal.returns
returns c =
    let list = c.args.list.now in
    let l = length-inverse list in
    (loop_all c.loop-j.invariant (omega arith)).stored ∙ ap (sets c.args.out.now 0) (each_self (inverse list))
