-- `pass`: where a run is full nothing was entered.
use Rattle.table_level.specs.Inner.{crowded}
use Rattle.table_level.proofs.LevelLaws.{widen_none}
use Rattle.table_level.proofs.pass.Goals as goal

pub returns-in-Err : goal.returns-in-Err
returns-in-Err c = crowded (widen_none c.requires.1.room) c.in-Err.ensures
