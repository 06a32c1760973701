-- `climb_many`: with one index as far as it goes, and from there by classes.
use Rattle.table_climb.proofs.StageLaws.{raised_on}
use Rattle.table_climb.proofs.climb_many.Goals as goal

pub returns-in-Err-Outgrown : goal.returns-in-Err-Outgrown
returns-in-Err-Outgrown c =
    raised_on c.args.job.n c.args.job.starts.now c.args.job.moves.now c.args.job.depth _ c.climb_by_classes.result
    (rw c.in-Err-Outgrown.field-0-is at c.in-Err-Outgrown.ensures).1 c.climb_by_classes.ensures
