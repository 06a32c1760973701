-- `find`: what the walk or the run tells of a key of the classes.
use Rattle.key_index.proofs.WordLaws.{place_told}
use Rattle.key_index.proofs.IndexLaws.{sought_probed, class_told, class_other, probed_at}
use Rattle.key_index.proofs.find.Goals as goal

pub returns-then-not-contains : goal.returns-then-not-contains
returns-then-not-contains c = class_other c.args.classes _ c.hash-h.ensures.0 c.contains.ensures c.if-not-contains.true

pub returns : goal.returns
returns c =
    sought_probed _ c.probe.result c.if-classes.false (c.requires.filed c.if-classes.false)
    ((class_told c.args.classes _ c.hash-h.ensures.0 c.contains.ensures).0 c.if-not-contains.false)
    (probed_at _ _ _ _ c.probe.result (place_told _ _ c.hash-h.ensures.0 c.place.ensures.0) c.probe.ensures)
