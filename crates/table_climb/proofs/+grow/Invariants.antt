-- `grow`: with the small index, and once more with the large one.
use Rattle.table_climb.proofs.StageLaws.{tier}
use Rattle.table_climb.proofs.+grow.Given as goal

-- the large index is the last
abbrev pub decreases-grow : goal.decreases-grow
decreases-grow l = tier l.stage.large
