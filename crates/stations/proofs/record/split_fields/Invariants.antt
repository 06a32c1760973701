-- `split_fields`: no more fields were kept than a record has.
use Rattle.std.proofs.Common.{◌≤◌}
use Rattle.stations.proofs.record.split_fields.Given as goal

abbrev pub invariant-loop-field : goal.invariant-loop-field
invariant-loop-field l =
    (goal.iterator-loop-field).can_next l.field-iterator ×
    (goal.iterator-loop-field).is_finite l.field-iterator ×
    (l.count ≤ 17)
