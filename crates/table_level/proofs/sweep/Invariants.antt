-- `sweep`: the sources one after the other.
use Rattle.generic_cube.specs.Sizes.{stickers}
use Rattle.table_level.specs.Inner.{Source, Swept, Going}
use Rattle.table_level.proofs.sweep.Given as goal

abbrev pub invariant-loop-at : goal.invariant-loop-at
invariant-loop-at l =
    let n = l.job.n in
    let starts = l.job.starts.now in
    let moves = l.job.moves.now in
    Going (stickers n) l.stage.number (Source n starts moves l.stage l.initial.table) l.initial.table l.stage.count l.classes (Swept n starts moves l.classes l.stage.number l.stage.from l.at) l.table l.index l.count
