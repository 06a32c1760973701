use Prim.Native.Nat.{ℕ, ◌+◌, ◌-◌, ◌≤◌}
use mathlib.Core.Path.{refl, sym, ap, ap₂, ◌∙◌}
use mathlib.Core.List.{List, ◌++◌, append_assoc}
use native.Mathlib.Omega.{arith}
use lib.ListN.{length, take, drop, length-append, length-drop}
use lib.Seq.{drop-drop, length-take-le}
use Rattle.ground.proofs.ListLaws.{part_front}
use Rattle.algorithm_parser.proofs.RoomLaws.{append_in, append_out, copy_part}
use Rattle.algorithm_parser.proofs.moves.put_part.Goals as goal

pub returns-then-next-out : goal.returns-then-next-out
returns-then-next-out c =
    let a = c.args in
    let out = a.out.now in
    let size = a.mid - a.j in
    let s = c.split_at_mut-front.ensures in
    let fits : a.to + size ≤ length out = omega (arith, c.plus-next.ensures, c.requires.placed.short) in
    let part = c.copy.ensures ∙ ap (λ (l : List ℕ). take size (drop a.j l)) s.front ∙ sym (part_front out a.j size a.to (omega arith) (omega (arith, c.requires.some, c.requires.after))) in
    let rest = ap (drop size) s.back ∙ drop-drop size a.to out in
    let is = ap₂ (λ (f b : List ℕ). f ++ b) s.front (ap₂ (λ (p r : List ℕ). p ++ r) part rest) in
    let old = take size (drop a.j out) in
    let behind = drop (a.to + size) out in
    let long = ap length is ∙ length-append (take a.to out) (old ++ behind) ∙ omega (arith, fits, length-append old behind, length-take-le a.to out (omega arith), length-take-le size (drop a.j out) (omega (arith, length-drop a.j out, c.requires.after)), length-drop (a.to + size) out) in
    append_in (λ vs. vs) (λ vs. refl) c.requires c.plus-next.ensures c.if-next-out.true long
    (copy_part a.j a.mid a.to fits c.requires.after (is ∙ sym (append_assoc (take a.to out) old behind)))

pub returns-else-next-out : goal.returns-else-next-out
returns-else-next-out c = append_out (λ vs. vs) (λ vs. refl) c.requires c.plus-next.ensures c.if-next-out.false
