-- `ida_star`: a refusal changes nothing; else the passes are made and their work area is cleared.
use mathlib.Core.Path.{◌≡◌, sym}
use lib.ListN.{length}
use lib.Seq.{length-take-le}
use Rattle.ground.proofs.RefusalLaws.{passed_on}
use Rattle.generic_cube.proofs.AnswerLaws.{done_number}
use Rattle.generic_cube.proofs.CodeLaws.{small_cube}
use Rattle.search_theory.specs.CubeSearch.{CubeSearch}
use Rattle.ida_star.specs.IdaStar.{search_refusal}
use Rattle.ida_star.proofs.IdaStarLaws.{levels-small, SearchTaken, search_taken, searched_refused, part_fits, searched}
use native.Mathlib.Omega.{arith}
use Rattle.ida_star.proofs.ida_star.Goals as goal
use Rattle.ida_star.proofs.ida_star.Goals.{In_ok-check_search}

refused_none : (c : In_ok-check_search) → search_refusal (record { n = c.args.n; cube = c.args.cube.now; table = c.args.table.now; depth = c.args.depth; candidates = c.args.moves.now; limit = c.args.limit }) (length c.args.work.now) (length c.args.out.now) ≡ 0
refused_none c = done_number _ c.in_ok-check_search.ensures

good : (c : In_ok-check_search) → SearchTaken (record { n = c.args.n; cube = c.args.cube.now; table = c.args.table.now; depth = c.args.depth; candidates = c.args.moves.now; limit = c.args.limit }) (length c.args.work.now) (length c.args.out.now)
good c =
    let asked : CubeSearch = record { n = c.args.n; cube = c.args.cube.now; table = c.args.table.now; depth = c.args.depth; candidates = c.args.moves.now; limit = c.args.limit } in
    search_taken asked _ _ (refused_none c)

pub returns-in_err-check_search : goal.returns-in_err-check_search
returns-in_err-check_search c = rw (passed_on _ c.from_residual.ensures.1) (searched_refused _ c.in_err-check_search.ensures)

pub overflow_add-need : goal.overflow_add-need
overflow_add-need c =
    omega (arith, (good c).starting.low)

pub overflow_mul-need : goal.overflow_mul-need
overflow_mul-need c =
    omega (arith, (good c).given.size)

pub overflow_mul-need-2 : goal.overflow_mul-need-2
overflow_mul-need-2 c =
    omega (arith, small_cube _ (good c).given.size)

pub overflow_mul-need-3 : goal.overflow_mul-need-3
overflow_mul-need-3 c =
    omega (arith, levels-small _ _ (good c).given.size (good c).starting.low)

pub slice_bounds-rise-end : goal.slice_bounds-rise-end
slice_bounds-rise-end c = (good c).starting.room

pub slice_bounds-rise-end-2 : goal.slice_bounds-rise-end-2
slice_bounds-rise-end-2 c =
    sym (length-take-le _ c.args.work.now (good (goal.at.slice_bounds-rise-end-2 c).In_ok-check_search).starting.room)

pub invariant_of-search : goal.invariant_of-search
invariant_of-search c = record { given = (good (goal.at.invariant_of-search c).In_ok-check_search).given }

pub rise-found-requires-clause-starting : goal.rise-found-requires-clause-starting
rise-found-requires-clause-starting c =
    let s = (good (goal.at.rise-found-requires-clause-starting c).In_ok-check_search).starting in
    record { whole = s.whole; low = s.low; room = omega (arith, length-take-le _ c.args.work.now s.room) }

pub rise-found-requires-clause-limit_in_bounds : goal.rise-found-requires-clause-limit_in_bounds
rise-found-requires-clause-limit_in_bounds c =
    (good (goal.at.rise-found-requires-clause-limit_in_bounds c).In_ok-check_search).slots

pub slice_bounds-fill-end : goal.slice_bounds-fill-end
slice_bounds-fill-end c =
    part_fits _ c.args.work.now c.rise-found.new.work (good (goal.at.slice_bounds-fill-end c).In_ok-check_search).starting.room c.rise-found.auto.work

pub slice_bounds-fill-end-2 : goal.slice_bounds-fill-end-2
slice_bounds-fill-end-2 c =
    sym (length-take-le _ _
    (part_fits _ c.args.work.now c.rise-found.new.work (good (goal.at.slice_bounds-fill-end-2 c).In_ok-check_search).starting.room c.rise-found.auto.work))

pub returns : goal.returns
returns c =
    let k = (goal.at.returns c).In_ok-check_search in
    searched _ c.args.work.now c.rise-found.new.work (good k).starting.room c.rise-found.auto.work
    (refused_none k) (c.fill.ensures.after (λ y e. e)) c.rise-found.ensures
