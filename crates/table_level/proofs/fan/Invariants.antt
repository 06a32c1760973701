-- `fan`: the candidates one after the other.
use Rattle.generic_cube.specs.Sizes.{stickers}
use Rattle.table.specs.Entries.{entry_key}
use Rattle.table_level.specs.Inner.{LeadsTo, Going}
use Rattle.table_level.proofs.LevelLaws.{FannedTo}
use Rattle.table_level.proofs.fan.Given as goal

abbrev pub invariant-loop-code : goal.invariant-loop-code
invariant-loop-code l =
    let n = l.job.n in
    let cube = entry_key (stickers n) l.initial.table l.at in
    Going (stickers n) l.number (LeadsTo n l.job.moves.now cube) l.initial.table l.known l.classes (FannedTo n l.job.moves.now l.classes cube l.code-index) l.table l.index l.count
