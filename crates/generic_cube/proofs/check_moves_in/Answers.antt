-- `check_moves_in`: the walk over what is left gives what the walk over all gives.
use Prim.Native.Nat.{ℕ}
use mathlib.Core.Path.{◌≡◌, sym, ap, ◌∙◌}
use lib.ListN.{drop}
use Rattle.ground.specs.Choice.{pick}
use Rattle.ground.proofs.RefusalLaws.{passed_on}
use Rattle.generic_cube.specs.Code.{bad_width_in}
use Rattle.generic_cube.specs.Answers.{done}
use Rattle.generic_cube.proofs.CodeLaws.{walked, walk_list, walk_refused, walk_next, walk_end, taken, refused}
use Rattle.generic_cube.proofs.check_moves_in.Goals as goal
use Rattle.generic_cube.proofs.check_moves_in.Goals.{then-is_bad_width, else-is_bad_width}

pub returns-in_err-m : goal.returns-in_err-m
returns-in_err-m c =
    let l = c.loop-code in
    let a = c.args in
    let r = refused _ _ c.in_err-m.ensures in
    passed_on _ c.from_residual.ensures.1 ∙ rw r.0 (ap done (sym (walk_refused a.low a.high (pick l.has_bad_width 5 0) a.list.now l.code-index c.loop-code-test.true r.1) ∙ l.invariant ∙ walk_list a.low a.high a.list.now))

pub loop-code-preserved : goal.loop-code-preserved
loop-code-preserved c =
    let l = c.loop-code in
    let a = c.args in
    let t = taken _ _ c.in_ok-m.ensures in
    let w = c.is_bad_width.ensures ∙ ap (bad_width_in a.low a.high) t.0 in
    let r : ℕ = pick l.has_bad_width 5 0 in
    let h : walked a.low a.high r (drop l.code-index a.list.now) ≡ walked a.low a.high 0 a.list.now = l.invariant in
    elim c.if-is_bad_width.branch [
      | then-is_bad_width z ↦ walk_next a.low a.high r a.list.now l.code-index c.loop-code-test.true t.1 w (ap (λ b. pick b 5 0) z.has_bad_width-is ∙ ap (λ b. pick b 5 r) (sym z.if-is_bad_width.true)) ∙ h
      | else-is_bad_width z ↦ walk_next a.low a.high r a.list.now l.code-index c.loop-code-test.true t.1 w (ap (λ b. pick b 5 0) z.has_bad_width-is ∙ ap (λ b. pick b 5 r) (sym z.if-is_bad_width.false)) ∙ h
    ]

pub returns-then-has_bad_width : goal.returns-then-has_bad_width
returns-then-has_bad_width c =
    let l = c.loop-code in
    let a = c.args in
    ap done (ap (λ b. pick b 5 0) (sym c.if-has_bad_width.true) ∙ sym (walk_end a.low a.high (pick l.has_bad_width 5 0) a.list.now l.code-index c.loop-code-test.false) ∙ l.invariant ∙ walk_list a.low a.high a.list.now)

pub returns : goal.returns
returns c =
    let l = c.loop-code in
    let a = c.args in
    ap done (ap (λ b. pick b 5 0) (sym c.if-has_bad_width.false) ∙ sym (walk_end a.low a.high (pick l.has_bad_width 5 0) a.list.now l.code-index c.loop-code-test.false) ∙ l.invariant ∙ walk_list a.low a.high a.list.now)
