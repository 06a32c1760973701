-- `build`: what was found, sorted, is the table.
use Rattle.generic_cube.specs.Sizes.{stickers}
use Rattle.generic_cube.proofs.CodeLaws.{small_cube}
use Rattle.pruning_table.proofs.FinishLaws.{used_sortable, finished}
use Rattle.pruning_table.proofs.build.Goals as goal

pub sort-requires : goal.sort-requires
sort-requires c =
    let s = c.in_ok-count.ensures.0 in
    used_sortable (stickers c.args.job.n) c.in_ok-count.count c.grow.new.table s.room (small_cube _ c.args.job.ready.turning.size) s.distinct

pub returns : goal.returns
returns c = let w = c.in_ok-count.ensures in finished _ w.0 w.1 c.sort.ensures
