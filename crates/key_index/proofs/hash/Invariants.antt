-- `hash`: the words passed are mixed in.
use Prim.Native.Nat.{◌<◌}
use mathlib.Core.Path.{◌≡◌}
use Rattle.key_index.specs.InnerIndex.{hash_up}
use Rattle.key_index.proofs.hash.Given as goal

abbrev pub invariant-loop-k : goal.invariant-loop-k
invariant-loop-k l = (l.h ≡ hash_up l.key l.k) × (l.h < 4294967296)
