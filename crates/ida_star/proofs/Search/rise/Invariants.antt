-- `rise`: no pass so far has found a list.
use mathlib.Core.Path.{◌≡◌}
use lib.ListN.{length}
use Rattle.search_theory.specs.CubeSearch.{cube_task}
use Rattle.ida_star.proofs.PassesLaws.{PassesRising}
use Rattle.ida_star.proofs.Search.rise.Given as goal

abbrev pub invariant-loop-left : goal.invariant-loop-left
invariant-loop-left l =
    PassesRising (cube_task l.self.n l.self.table.now l.self.depth l.self.moves.now) l.limit l.cube l.initial.work l.work l.initial.out l.out l.left × (length l.path ≡ 20)
