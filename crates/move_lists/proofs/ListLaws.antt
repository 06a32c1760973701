-- What a list without a refusal is, and the results of simplifying and inverting it.
use Prim.Native.Nat.{ℕ, zero, suc, ◌+◌, ◌-◌, ◌<◌, ◌≤◌}
use mathlib.Core.Path.{◌≡◌, refl, sym, ap, ◌∙◌}
use mathlib.Core.Bool.{true}
use mathlib.Core.List.{List, [], ◌∷◌, ◌++◌, append_assoc}
use native.Mathlib.Omega.{arith}
use native.Mathlib.Nat.{zero-add}
use lib.ListN.{length, get_or, take, drop, replicate, length-append, length-take, length-drop, length-replicate, get_or-append}
use lib.Seq.{sets, sets-eq, get_or_at, length-take-le, drop-drop}
use lib.Dec.{ltb}
use borrow.Author.Tests.{ltb-true, ltb-false, not-false}
use Rattle.ground.proofs.ChoiceLaws.{bool_cases}
use Rattle.ground.proofs.RefusalLaws.{passed, pass_lowest}
use Rattle.generic_cube.specs.Sizes.{sized}
use Rattle.generic_cube.specs.Code.{move_of, code_of, with_turn, refusal_in, list_rows, list_refusal}
use Rattle.generic_cube.proofs.AnswerLaws.{answer_value_lem}
use Rattle.generic_cube.proofs.CodeLaws.{Good, AllGood, taken_good, code_bounds, code_width, turn_most, good_move}
use Rattle.std.specs.Prelude.{Ok}
use Rattle.move_lists.specs.Lists.{simplify, Turned, inverse_of, inverse, same_rows, same_refusal, SimplifyResult, InvertResult}
use Rattle.move_lists.specs.Inner.{Shrunk}

-- ---- what is known where nothing is refused

pub record Fitting (n : ℕ) (cs : List ℕ) (room : ℕ) : Type 0 where
  pub size : sized n ≡ true
  pub list : list_refusal n cs ≡ 0
  pub fits : length cs ≤ room

pub fitting : (n : ℕ) (cs : List ℕ) (room : ℕ) → same_refusal n cs room ≡ 0 → Fitting n cs room
unfolding same_refusal list_refusal
fitting n cs room e =
    let p = passed (same_rows n cs room) refl e in
    record {
      size = not-false _ p.0;
      list = pass_lowest (list_rows n cs) (p.1.0, (p.1.1.0, tt));
      fits = ltb-false _ _ p.1.1.1.0;
    }

pub turned_at : (cs : List ℕ) (i : ℕ) → Turned cs → i < length cs → 0 < (move_of (get_or cs i 0)).turn
turned_at [] i t h = absurd (omega arith)
turned_at (c ∷ cs) zero t h = t.0
turned_at (c ∷ cs) (suc i) t h = turned_at cs i t.1 (omega arith)

-- ---- simplifying

-- the stack, then zeros over the part of the output that is left of the input's length
pub simplify-done : (n : ℕ) {cs out mid zs : List ℕ} {k : ℕ} → same_refusal n cs (length out) ≡ 0 → length mid ≡ length out → Shrunk cs out mid k
    → zs ≡ replicate (length (take (length cs - k) (drop k mid))) 0
    → SimplifyResult n cs out (take k mid ++ (zs ++ drop (length cs - k) (drop k mid))) (Ok k)
simplify-done n {cs} {out} {mid} {zs} {k} g l s w =
    let f = (fitting n cs (length out) g).fits in
    let most = s.most in
    let count : length (simplify cs) ≡ k = ap length (sym s.top) ∙ length-take-le k mid (omega arith) in
    let part : length (take (length cs - k) (drop k mid)) ≡ length cs - k = simp (length-take, length-drop) (omega arith) in
    let whole : k + (length cs - k) ≡ length cs = omega arith in
    let zeros : List ℕ = replicate (length cs - length (simplify cs)) 0 in
    let long : length (simplify cs ++ zeros) ≡ length cs
    = length-append (simplify cs) zeros ∙ ap (λ (j : ℕ). length (simplify cs) + j) (length-replicate (length cs - length (simplify cs)) 0) ∙ omega arith in
    let rest : drop (length cs - k) (drop k mid) ≡ drop (length cs) out = drop-drop (length cs - k) k mid ∙ ap (λ (j : ℕ). drop j mid) whole ∙ s.kept in
    answer_value_lem g (sym count) (rw (rest, w, part, s.top, long, count, append_assoc))

-- ---- inverting

pub length-inverse : (cs : List ℕ) → length (inverse cs) ≡ length cs
unfolding inverse
length-inverse [] = refl
length-inverse (c ∷ cs) = let e = length-inverse cs in simp length-append (omega arith)

pub get_d_inverse : (cs : List ℕ) (j : ℕ) → j < length cs → get_or (inverse cs) j 0 ≡ inverse_of (get_or cs (length cs - 1 - j) 0)
unfolding inverse
get_d_inverse [] j h = absurd (omega arith)
get_d_inverse (c ∷ cs) j h =
    let l = length-inverse cs in
    bool_cases (ltb j (length cs))
    (λ t.
    let q = ltb-true j (length cs) t in
    let e : suc (length cs) - 1 - j ≡ suc (length cs - 1 - j) = omega arith in
    get_or-append (inverse cs) (inverse_of c ∷ []) 0 j (omega arith) ∙ get_d_inverse cs j q
    ∙ ap (λ (i : ℕ). inverse_of (get_or (c ∷ cs) i 0)) (sym e))
    (λ t.
    let q = ltb-false j (length cs) t in
    let e : suc (length cs) - 1 - j ≡ 0 = omega arith in
    get_or_at (inverse cs) (inverse_of c) [] 0 j (omega arith) ∙ ap (λ (i : ℕ). inverse_of (get_or (c ∷ cs) i 0)) (sym e))

-- the next code of the inverse, from the code that is turned back
pub inverse-next : (cs : List ℕ) {j v : ℕ} → Turned cs → j < length cs
    → (0 < (move_of (get_or cs (length cs - 1 - j) 0)).turn → v ≡ inverse_of (get_or cs (length cs - 1 - j) 0)) → v ≡ get_or (inverse cs) j 0
inverse-next cs {j} t h e = e (turned_at cs (length cs - 1 - j) t (omega arith)) ∙ sym (get_d_inverse cs j h)

pub invert_done : (n : ℕ) (cs : List ℕ) {out new : List ℕ} → same_refusal n cs (length out) ≡ 0 → new ≡ sets out 0 (inverse cs)
    → InvertResult n cs out new (Ok (length cs))
invert_done n cs {out} g w =
    let l = length-inverse cs in
    let r : 0 + length (inverse cs) ≤ length out = omega (arith, (fitting n cs (length out) g).fits) in
    answer_value_lem g refl (w ∙ sets-eq (inverse cs) out 0 r ∙ simp zero-add)

-- ---- lists of codes that are taken, and their inverses

module _ (low high : ℕ) where
  -- another turn of the same kind and width
  pub good_turn : (c t : ℕ) → 1 ≤ t → t ≤ 3 → Good low high c → Good low high (code_of (with_turn (move_of c) t))
  good_turn c t l h g =
      good_move low high (with_turn (move_of c) t) l h (code_bounds c g.code).1 (λ w. code_width c g.code w) (λ w. rw w at g.width)

  pub good_append : (xs ys : List ℕ) → AllGood low high xs → AllGood low high ys → AllGood low high (xs ++ ys)
  unfolding AllGood
  good_append [] ys g h = h
  good_append (x ∷ xs) ys g h = (g.0, good_append xs ys g.1 h)

  pub good_inverse : (cs : List ℕ) → AllGood low high cs → AllGood low high (inverse cs)
  unfolding inverse inverse_of AllGood
  good_inverse [] g = tt
  good_inverse (c ∷ cs) g =
      let q = code_bounds c g.0.code in
      let m = turn_most c in
      good_append (inverse cs) (inverse_of c ∷ []) (good_inverse cs g.1) (good_turn c (4 - (move_of c).turn) (omega arith) (omega arith) g.0, tt)

-- no turn of a list that is taken is 0
pub good_turned : (low high : ℕ) (cs : List ℕ) → AllGood low high cs → Turned cs
unfolding AllGood
good_turned low high [] g = tt
good_turned low high (c ∷ cs) g = ((code_bounds c g.0.code).0, good_turned low high cs g.1)

pub taken_turned : (n : ℕ) (cs : List ℕ) → list_refusal n cs ≡ 0 → Turned cs
unfolding list_refusal refusal_in
taken_turned n cs e = good_turned 1 n cs (taken_good 1 n cs e)

pub fitting_turned : {n : ℕ} {cs : List ℕ} {room : ℕ} → Fitting n cs room → Turned cs
fitting_turned {n} {cs} g = taken_turned n cs g.list
