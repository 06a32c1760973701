-- `compare`: the order of two keys is that of what is left of them behind i words.
use Prim.Native.Nat.{◌*◌}
use mathlib.Core.Path.{◌≡◌}
use lib.ListN.{drop}
use Rattle.table.specs.Order.{order_of}
use Rattle.table.proofs.compare.Given as goal

abbrev pub invariant-loop-i : goal.invariant-loop-i
invariant-loop-i l = order_of l.a l.b ≡ order_of (drop (6 * l.i) l.a) (drop (6 * l.i) l.b)
