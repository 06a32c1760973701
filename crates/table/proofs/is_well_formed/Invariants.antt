-- `is_well_formed`: each key before i is less than the next.
use Prim.Native.Nat.{ℕ, ◌-◌, ◌≤◌, ◌<◌}
use mathlib.Core.Path.{◌≡◌}
use Rattle.std.specs.declared.cmp.Ordering.TheVariants.{Less}
use Rattle.table.specs.Order.{order_of}
use Rattle.table.specs.Entries.{entry_key}
use Rattle.table.proofs.is_well_formed.Given as goal

abbrev pub invariant-loop-i : goal.invariant-loop-i
invariant-loop-i l = (j : ℕ) → j < l.i → 1 ≤ j → order_of (entry_key l.m l.table (j - 1)) (entry_key l.m l.table j) ≡ Less
