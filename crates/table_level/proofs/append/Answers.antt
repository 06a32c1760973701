-- `append`: the key's bytes and then the number.
use Rattle.table_level.proofs.LevelLaws.{append-bytes}
use Rattle.table_level.proofs.append.Goals as goal

pub returns : goal.returns
returns c = append-bytes c.args.m c.args.i c.args.table.now c.args.number c.requires.1 c.requires.2 c.copy.ensures
