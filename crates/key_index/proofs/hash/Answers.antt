-- `hash`: the words passed are mixed in.
use native.Mathlib.Omega.{arith}
use Rattle.key_index.proofs.WordLaws.{hash_none, hash_more, hash_all}
use Rattle.key_index.proofs.hash.Goals as goal

pub loop-k-init : goal.loop-k-init
loop-k-init c = (hash_none _, omega arith)

pub loop-k-preserved : goal.loop-k-preserved
loop-k-preserved c = (hash_more _ _ c.loop-k.invariant.0 c.word.ensures.0 c.mix-h.ensures.0, c.mix-h.ensures.1)

pub returns : goal.returns
returns c = (hash_all _ c.loop-k.k c.loop-k.invariant.0 (omega arith), c.loop-k.invariant.1)
