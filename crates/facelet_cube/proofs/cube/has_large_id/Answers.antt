use Prim.Native.Nat.{ℕ}
use mathlib.Core.Path.{◌∙◌}
use lib.Dec.{leb}
use Rattle.std.proofs.Common.{rules, tests}
use Rattle.std.proofs.lemmas.Iterator.{YieldsList-from_slice}
use Rattle.std.proofs.lemmas.Iterator.Search.{any_from_yields_List}
use Rattle.facelet_cube.proofs.CubeLaws.{any_is}
use Rattle.facelet_cube.proofs.cube.has_large_id.Goals as goal

pub returns : goal.returns
returns c =
    let large = λ (i : ℕ). leb c.args.count i in
    let xs = c.args.ids.now in
    any_from_yields_List large _ _ _ c.any.ensures.ran (YieldsList-from_slice xs cc) (λ x b q k. search (rules, tests)) ∙ any_is large xs
