-- `pack`: a count that is one more fits, or is as far past what a packing holds as it would be.
use Prim.Native.Nat.{ℕ, suc, ◌+◌, min}
use mathlib.Core.Path.{◌≡◌, ap, ◌∙◌}
use native.Mathlib.Omega.{arith}
use borrow.Author.Tests.{le-ltb}
use Rattle.std.specs.Prelude.{Ok, Some}
use Rattle.ground.proofs.ChoiceLaws.{less_cases}
use Rattle.cubesim.specs.Pack.{pack}
use Rattle.cubesim.proofs.packing.ResultOptionUsizeRefusalAnswer.pack.Goals as goal

one_more : (k s : ℕ) → s ≡ min (k + 1) 18446744073709551615 → pack 0 s ≡ pack 0 (suc k)
unfolding pack
one_more k s e =
    less_cases s 72057594037927936
    (λ h. let d : s ≡ suc k = omega arith in rw d)
    (λ h. simp (le-ltb _ _ h, le-ltb (suc k) 72057594037927936 (omega arith)))

pub returns-in-Some : goal.returns-in-Some
returns-in-Some c =
    let is : c.args.self ≡ Ok (Some c.in-Some.count) = c.in-Ok.is ∙ ap Ok c.in-Some.is in
    rw is (c.pack_of-in-Some.ensures ∙ one_more c.in-Some.count _ c.saturating_add.ensures)
