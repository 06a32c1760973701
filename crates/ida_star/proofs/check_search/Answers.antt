-- `check_search`: each return is a case of `search_refusal`, in its order.
use Prim.Native.Nat.{◌≤◌}
use mathlib.Core.Path.{◌≡◌, sym, ap, ◌∙◌}
use mathlib.Core.Bool.{false, not}
use lib.Dec.{ltb}
use lib.ListN.{length}
use borrow.Author.Tests.{lt-ltb, le-ltb, ne_eqb, not-false}
use Rattle.generic_cube.specs.Sizes.{small, beyond}
use Rattle.generic_cube.specs.Answers.{done}
use Rattle.generic_cube.proofs.AnswerLaws.{done_number}
use Rattle.generic_cube.proofs.CodeLaws.{small_bounds, small_cube, in_reach}
use Rattle.ground.specs.Choice.{pick}
use Rattle.ground.specs.Refusals.{lowest}
use Rattle.ground.proofs.RefusalLaws.{passed_on}
use Rattle.search_theory.specs.CubeSearch.{CubeSearch}
use Rattle.ida_star.specs.IdaStar.{search_refusal}
use Rattle.ida_star.specs.Inner.{late_refusal}
use Rattle.ida_star.proofs.IdaStarLaws.{search_listed, search_behind}
use native.Mathlib.Omega.{arith}
use Rattle.ida_star.proofs.check_search.Goals as goal
use Rattle.ida_star.proofs.check_search.Goals.{Else-is_beyond, Else-not-is_small, In_ok-check_moves, Start}

sized : (c : Else-not-is_small) → not (small c.args.n) ≡ false
sized c = ap not (sym c.is_small.ensures ∙ c.if-not-is_small.false)

bounds : (c : Else-not-is_small) → (1 ≤ c.args.n) × (c.args.n ≤ 7)
bounds c = small_bounds _ (not-false _ (sized c))

-- the search that is asked for
abbrev asked : (c : Start) → CubeSearch
asked c =
    record { n = c.args.n; cube = c.args.cube.now; table = c.args.table.now; depth = c.args.depth; candidates = c.args.moves.now; limit = c.args.limit }

-- the list is in order: rows 6 to 9 are left
behind : (c : In_ok-check_moves) → let a = c.args in search_refusal (record { n = c.args.n; cube = c.args.cube.now; table = c.args.table.now; depth = c.args.depth; candidates = c.args.moves.now; limit = c.args.limit }) a.work a.out ≡ pick (ltb a.out a.limit) 6 (pick (beyond (length a.moves.now) a.limit a.depth) 7 (late_refusal a.n a.table.now a.limit a.work))
behind c =
    let sized : not (small c.args.n) ≡ false = ap not (sym c.is_small.ensures ∙ c.if-not-is_small.false) in
    let asked : CubeSearch = record { n = c.args.n; cube = c.args.cube.now; table = c.args.table.now; depth = c.args.depth; candidates = c.args.moves.now; limit = c.args.limit } in
    search_behind asked _ _ sized c.if-cube-n.false (done_number _ c.in_ok-check_moves.ensures)

near : (c : Else-is_beyond) → beyond (length c.args.moves.now) c.args.limit c.args.depth ≡ false
near c = sym c.is_beyond.ensures ∙ c.if-is_beyond.false

pub returns-then-not-is_small : goal.returns-then-not-is_small
unfolding search_refusal lowest
returns-then-not-is_small c = simp (ap not (sym c.is_small.ensures ∙ c.if-not-is_small.true))

pub overflow_mul-n : goal.overflow_mul-n
overflow_mul-n c =
    omega (arith, (bounds c))

pub overflow_mul-n-2 : goal.overflow_mul-n-2
overflow_mul-n-2 c =
    omega (arith, small_cube _ (bounds c).1)

pub returns-then-cube-n : goal.returns-then-cube-n
unfolding search_refusal lowest
returns-then-cube-n c =
    simp ((sized (goal.at.returns-then-cube-n c).Else-not-is_small), ne_eqb _ _ c.if-cube-n.true)

pub returns-in_err-check_moves : goal.returns-in_err-check_moves
returns-in_err-check_moves c =
    passed_on _ c.from_residual.ensures.1
    ∙ search_listed (asked (goal.at.returns-in_err-check_moves c).Start) _ _ (sized (goal.at.returns-in_err-check_moves c).Else-not-is_small) c.if-cube-n.false c.in_err-check_moves.ensures

pub returns-then-out-limit : goal.returns-then-out-limit
returns-then-out-limit c =
    sym (ap done (behind (goal.at.returns-then-out-limit c).In_ok-check_moves) ∙ rw (lt-ltb _ _ c.if-out-limit.true))

pub returns-then-is_beyond : goal.returns-then-is_beyond
returns-then-is_beyond c =
    sym (ap done (behind (goal.at.returns-then-is_beyond c).In_ok-check_moves) ∙ rw (le-ltb _ _ c.if-out-limit.false, sym c.is_beyond.ensures ∙ c.if-is_beyond.true))

pub check_late-requires : goal.check_late-requires
check_late-requires c =
    let b = (bounds (goal.at.check_late-requires c).Else-not-is_small) in
    let r = in_reach _ _ _ (near c) in
    record { some = b.0; size = b.1; low = r.low }

pub returns : goal.returns
returns c =
    c.check_late.ensures ∙ sym (ap done (behind (goal.at.returns c).In_ok-check_moves) ∙ rw (le-ltb _ _ c.if-out-limit.false, (near (goal.at.returns c).Else-is_beyond)))
