-- `put`: the bytes stand where they were copied to.
use Prim.Native.Nat.{◌+◌, ◌-◌}
use mathlib.Core.Path.{◌≡◌, refl, sym, ◌∙◌}
use mathlib.Core.List.{append_assoc}
use native.Mathlib.Omega.{arith}
use lib.ListN.{length, take, drop}
use lib.Seq.{sets-eq, drop-drop}
use Rattle.cube_response.proofs.text.put.Goals as goal

pub returns : goal.returns
returns c =
    let at = c.args.at in
    let text = c.args.text.now in
    let out = c.args.out.now in
    let size : at + length text - at ≡ length text = omega arith in
    let behind : drop (length text) (drop at out) ≡ drop (at + length text) out = drop-drop (length text) at out in
    record { next = refl; stored = rw (size, c.copy_from_slice.ensures.after, behind) (sym (sets-eq text out at c.requires ∙ append_assoc (take at out) text (drop (at + length text) out))) }
