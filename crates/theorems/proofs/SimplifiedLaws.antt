-- Simplifying: neighbours join until none join, the result is unique, and a second pass changes nothing.
use Prim.Native.Nat.{ℕ}
use mathlib.Core.Path.{◌≡◌, refl, sym, ◌∙◌}
use mathlib.Core.List.{List, [], ◌∷◌}
use Rattle.ground.proofs.ChoiceLaws.{bool_cases}
use Rattle.generic_cube.specs.Code.{joins}
use Rattle.move_lists.specs.Lists.{join, push, simplify, Turned, here, there, Steps, done, then}
use Rattle.move_lists.proofs.SimplifyLaws.{simplify_reduced, simplify_fixed, step_simplify, step_turned}
use Rattle.theorems.specs.Notation.{NoneJoin, SecondPass, ByJoinings, Unique}

pub none_join : NoneJoin
none_join cs = simplify_reduced cs

pub second_pass : SecondPass
second_pass cs = simplify_fixed (simplify cs) (simplify_reduced cs)

-- joinings do not change what a list simplifies to
steps_simplify : (xs ys : List ℕ) → Steps xs ys → Turned xs → simplify xs ≡ simplify ys
steps_simplify xs ys (done zs) h = refl
steps_simplify xs zs (then {ys = ys} s r) h = step_simplify xs ys s h ∙ steps_simplify ys zs r (step_turned xs ys s h)

pub unique : Unique
unique xs ys h s r = sym (steps_simplify xs ys s h ∙ simplify_fixed ys r)

steps_there : (c : ℕ) {xs ys : List ℕ} → Steps xs ys → Steps (c ∷ xs) (c ∷ ys)
steps_there c (done xs) = done (c ∷ xs)
steps_there c (then s r) = then (there c s) (steps_there c r)

steps_trans : {xs ys zs : List ℕ} → Steps xs ys → Steps ys zs → Steps xs zs
steps_trans (done xs) q = q
steps_trans (then s r) q = then s (steps_trans r q)

steps_push : (c : ℕ) (xs : List ℕ) → Steps (c ∷ xs) (push c xs)
unfolding push
steps_push c [] = done (c ∷ [])
steps_push c (x ∷ xs) =
    bool_cases (joins c x)
    (λ t. rw t (then (here c x xs t) (done (join c x xs))))
    (λ t. rw t (done (c ∷ x ∷ xs)))

pub reached : ByJoinings
unfolding simplify
reached [] = done []
reached (c ∷ cs) = steps_trans (steps_there c (reached cs)) (steps_push c (simplify cs))
