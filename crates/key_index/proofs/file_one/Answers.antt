-- `file_one`: an entry of other classes needs no slot; the others go into the first empty slot of their run.
use mathlib.Core.Path.{refl, ap, ◌∙◌}
use Rattle.key_index.specs.InnerIndex.{hash_of}
use Rattle.key_index.proofs.WordLaws.{place_told}
use Rattle.key_index.proofs.IndexLaws.{index_skip, index_more, class_other, free_at, free_inside}
use Rattle.key_index.proofs.file_one.Goals as goal

pub returns-in_ok-p : goal.returns-in_ok-p
returns-in_ok-p c =
    let hashed = c.hash-h.ensures.0 ∙ ap hash_of c.key.ensures in
    let gap = free_at (place_told _ _ hashed c.place.ensures.0) (rw c.in_ok-p.ensures.ok_part at c.free.ensures) in
    index_more _ _ _ c.requires.1 (λ i h. refl) refl gap (free_inside c.requires.1 _ gap)

pub returns-else-contains : goal.returns-else-contains
returns-else-contains c = index_skip c.requires.1 (class_other c.args.classes _ (c.hash-h.ensures.0 ∙ ap hash_of c.key.ensures) c.contains.ensures c.if-contains.false)
