-- `scan`: no entry passed has the key.
use Prim.Native.Nat.{ℕ, ◌<◌}
use mathlib.Core.Path.{◌≡◌}
use Rattle.table.specs.Entries.{entry_key}
use Rattle.key_index.proofs.scan.Given as goal

abbrev pub invariant-loop-i : goal.invariant-loop-i
invariant-loop-i l = (j : ℕ) → j < l.i → entry_key l.entries.m l.entries.bytes.now j ≡ l.key → ⊥
