-- `dfs`: the answer is that of the candidates from this one on; each call has one move less.
use Rattle.generic_cube.specs.Sizes.{stickers}
use Rattle.search_theory.specs.CubeSearch.{cube_task}
use Rattle.ida_star.proofs.VisitLaws.{Trying}
use Rattle.ida_star.proofs.Search.+dfs.Given as goal

abbrev pub invariant-loop-code : goal.invariant-loop-code
invariant-loop-code l = Trying (cube_task l.self.n l.self.table.now l.self.depth l.self.moves.now) (stickers l.self.n) l.left l.len l.initial.path l.path l.initial.work l.work l.code-index

-- each call has one move less
abbrev pub decreases-dfs : goal.decreases-dfs
decreases-dfs l = l.left
