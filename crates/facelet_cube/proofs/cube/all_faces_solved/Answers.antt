-- `all_faces_solved`: every face passed shows one byte.
use mathlib.Core.Path.{refl, sym, ◌∙◌}
use mathlib.Core.List.{[], ◌∷◌}
use Rattle.ground.proofs.ChoiceLaws.{all_here, all-next, all_end}
use Rattle.facelet_cube.specs.Cube.{face_stickers, one_byte, is_solved}
use Rattle.facelet_cube.proofs.CubeLaws.{face_shows}
use Rattle.facelet_cube.proofs.cube.all_faces_solved.Goals as goal

pub loop-k-init : goal.loop-k-init
unfolding is_solved
loop-k-init c = refl

pub loop-k-preserved : goal.loop-k-preserved
loop-k-preserved c =
    let a = c.args in
    let l = c.loop-k in
    let h = c.loop-k-test.true in
    l.invariant ∙ all-next (λ f. one_byte (face_stickers a.n f a.cube.now)) (0 ∷ 1 ∷ 2 ∷ 3 ∷ 4 ∷ 5 ∷ []) l.k h
    (face_shows a.n l.k a.cube.now h c.shows_one_byte.ensures c.if-not-shows_one_byte.false)

pub returns-then-not-shows_one_byte : goal.returns-then-not-shows_one_byte
returns-then-not-shows_one_byte c =
    let a = c.args in
    let l = c.loop-k in
    let h = c.loop-k-test.true in
    sym (l.invariant ∙ all_here (λ f. one_byte (face_stickers a.n f a.cube.now)) (0 ∷ 1 ∷ 2 ∷ 3 ∷ 4 ∷ 5 ∷ []) l.k h
    (face_shows a.n l.k a.cube.now h c.shows_one_byte.ensures c.if-not-shows_one_byte.true))

pub returns : goal.returns
returns c =
    let a = c.args in
    let l = c.loop-k in
    sym (l.invariant ∙ all_end (λ f. one_byte (face_stickers a.n f a.cube.now)) (0 ∷ 1 ∷ 2 ∷ 3 ∷ 4 ∷ 5 ∷ []) l.k c.loop-k-test.false)
