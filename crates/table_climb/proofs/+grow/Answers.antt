-- `grow`: with the small index, and once more with the large one.
use Rattle.table_climb.proofs.StageLaws.{raised_on}
use Rattle.table_climb.proofs.+grow.Goals as goal

pub returns-in-Err-Outgrown : goal.returns-in-Err-Outgrown
returns-in-Err-Outgrown t c =
    raised_on c.args.job.n c.args.job.starts.now c.args.job.moves.now c.args.job.depth _ c.grow.result
    (rw c.in-Err-Outgrown.field-0-is at c.in-Err-Outgrown.ensures).1 c.grow.ensures
