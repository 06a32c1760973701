-- Loops that store what they give for each element, one after the other, from a place of the output on.
use Prim.Native.Nat.{ℕ, zero, suc, ◌+◌, ◌*◌, ◌<◌, ◌≤◌}
use mathlib.Core.Path.{◌≡◌, refl, sym, ap, subst, ◌∙◌}
use mathlib.Core.List.{List, [], ◌∷◌, ◌++◌, append_assoc, append-nil}
use native.Mathlib.Omega.{arith}
use native.Mathlib.Numerals.{add-one}
use native.Mathlib.Nat.{mul-le-mul_right, suc-mul, add-zero}
use lib.ListN.{length, get_or, take, drop, set, length-append, take-append-drop}
use lib.Seq.{sets, length-sets, take-suc, take_all, length-take-le, take-set-le}
use Rattle.ground.specs.Lists.{each, up_from}
use Rattle.ground.specs.Inner.{Put}

pub sets-append : (a b out : List ℕ) (j : ℕ) → sets out j (a ++ b) ≡ sets (sets out j a) (j + length a) b
sets-append [] b out j = ap (λ (i : ℕ). sets out i b) (omega arith)
sets-append (x ∷ a) b out j =
    sets-append a b (set out j x) (suc j) ∙ ap (λ (i : ℕ). sets (sets (set out j x) (suc j) a) i b) (omega arith)

-- what stands before the place of a store stays
pub sets-front : (vs out : List ℕ) (j : ℕ) → take j (sets out j vs) ≡ take j out
sets-front vs out j = go vs out j j (omega arith)
  where
    go : (vs out : List ℕ) (j i : ℕ) → i ≤ j → take i (sets out j vs) ≡ take i out
    go [] out j i h = refl
    go (x ∷ vs) out j i h = go vs (set out j x) (suc j) i (omega arith) ∙ take-set-le i out j x h

pub put_then : {out mid new vs ws : List ℕ} {j r s : ℕ} → Put out j vs mid r → Put mid r ws new s → Put out j (vs ++ ws) new s
put_then {out} {mid} {new} {vs} {ws} {j} {r} {s} p q =
    record {
      next = let a = p.next in let b = q.next in simp length-append (omega arith);
      stored = q.stored ∙ ap (λ (o : List ℕ). sets o r ws) p.stored ∙ ap (λ (i : ℕ). sets (sets out j vs) i ws) p.next
          ∙ sym (sets-append vs ws out j);
    }

pub put_none : {out : List ℕ} {j : ℕ} → Put out j [] out j
put_none {out} {j} = record { next = sym (add-zero j); stored = refl }

pub put_one : {out : List ℕ} {j v x : ℕ} → v ≡ x → Put out j (x ∷ []) (set out j v) (j + 1)
put_one {out} {j} {v} e = record { next = refl; stored = ap (set out j) e }

pub put_length : {out new vs : List ℕ} {j r : ℕ} → Put out j vs new r → length new ≡ length out
put_length {out} {new} {vs} {j} p = ap length p.stored ∙ length-sets out j vs

-- what is left of the room
pub put_room : {out new vs : List ℕ} {j r : ℕ} (m : ℕ) → Put out j vs new r → j + (length vs + m) ≤ length out → r + m ≤ length new
put_room m p h = let e = p.next in let l = put_length p in omega arith

each_append : (xs ys : List ℕ) (f : ℕ → List ℕ) → each (xs ++ ys) f ≡ each xs f ++ each ys f
unfolding each
each_append [] ys f = refl
each_append (x ∷ xs) ys f = rw (each_append xs ys f) (sym (append_assoc (f x) (each xs f) (each ys f)))

-- one element for each, itself
pub each_self : (xs : List ℕ) → each xs (λ x. x ∷ []) ≡ xs
unfolding each
each_self [] = refl
each_self (x ∷ xs) = ap (λ (l : List ℕ). x ∷ l) (each_self xs)

-- `c` numbers for each element
pub length-each : (xs : List ℕ) (f : ℕ → List ℕ) (c : ℕ) → ((x : ℕ) → length (f x) ≡ c) → length (each xs f) ≡ length xs * c
unfolding each
length-each [] f c h = sym (native.Mathlib.Nat.zero-mul c)
length-each (x ∷ xs) f c h =
    length-append (f x) (each xs f) ∙ omega (arith, h x, length-each xs f c h, suc-mul (length xs) c)

pub length_from : (w count : ℕ) → length (up_from w count) ≡ count
unfolding up_from
length_from w zero = refl
length_from w (suc count) = ap suc (length_from (w + 1) count)

pub get_d_from : (w count i : ℕ) → i < count → get_or (up_from w count) i 0 ≡ w + i
unfolding up_from
get_d_from w zero i h = absurd (omega arith)
get_d_from w (suc count) zero h = sym (add-zero w)
get_d_from w (suc count) (suc i) h = get_d_from (w + 1) count i (omega arith) ∙ omega arith

-- one element on, and never more than all
module _ (xs : List ℕ) (f : ℕ → List ℕ) (i : ℕ) where
  pub each_upto : i < length xs → length (each (take (i + 1) xs) f) ≡ length (each (take i xs) f) + length (f (get_or xs i 0))
  unfolding each
  each_upto h =
      rw (add-one i, take-suc xs i 0 h, each_append (take i xs) (get_or xs i 0 ∷ []) f, append-nil)
      (length-append (each (take i xs) f) (f (get_or xs i 0)))

  pub each_most : length (each (take i xs) f) ≤ length (each xs f)
  each_most =
      let e : length (each xs f) ≡ length (each (take i xs) f) + length (each (drop i xs) f)
      = ap (λ (l : List ℕ). length (each l f)) (sym (take-append-drop i xs))
      ∙ ap length (each_append (take i xs) (drop i xs) f) ∙ length-append (each (take i xs) f) (each (drop i xs) f) in
      omega arith

-- the first i elements of a loop over xs are done, from place j of out₀ on; r is where the next goes
pub record Looped (out₀ : List ℕ) (j : ℕ) (xs : List ℕ) (f : ℕ → List ℕ) (i : ℕ) (out : List ℕ) (r : ℕ) : Type 0 where
  pub most : i ≤ length xs
  pub put : Put out₀ j (each (take i xs) f) out r

module _ {out₀ : List ℕ} {j : ℕ} {xs : List ℕ} {f : ℕ → List ℕ} where
  pub loop_none : Looped out₀ j xs f 0 out₀ j
  unfolding each
  loop_none = record { most = omega arith; put = put_none }

  pub loop_more : {i x : ℕ} {out new : List ℕ} {r s : ℕ} → Looped out₀ j xs f i out r → i < length xs → x ≡ get_or xs i 0
      → Put out r (f x) new s → Looped out₀ j xs f (i + 1) new s
  unfolding each
  loop_more {i} {x} {out} {new} {r} {s} l h a p =
      let e : each (take (i + 1) xs) f ≡ each (take i xs) f ++ f x
      = rw (add-one i, take-suc xs i 0 h, a) (each_append (take i xs) (get_or xs i 0 ∷ []) f
      ∙ ap (λ (v : List ℕ). each (take i xs) f ++ v) (append-nil (f (get_or xs i 0)))) in
      record { most = omega arith; put = subst (λ (v : List ℕ). Put out₀ j v new s) (sym e) (put_then l.put p) }

  pub loop_all : {i : ℕ} {out : List ℕ} {r : ℕ} → Looped out₀ j xs f i out r → length xs ≤ i → Put out₀ j (each xs f) out r
  loop_all {i} {out} {r} l h = subst (λ (v : List ℕ). Put out₀ j (each v f) out r) (take_all i xs h) l.put

  -- there is room for the next, where there is for all
  pub loop_fits : {i : ℕ} {out : List ℕ} {r : ℕ} → j + length (each xs f) ≤ length out₀ → Looped out₀ j xs f i out r → i < length xs
      → r + length (f (get_or xs i 0)) ≤ length out
  loop_fits {i} {out} {r} room l h =
      omega (arith, l.put.next, put_length l.put, each_upto xs f i h, each_most xs f (i + 1))

  pub loop_room : (c : ℕ) {i : ℕ} {out : List ℕ} {r : ℕ} → ((x : ℕ) → length (f x) ≡ c) → j + length xs * c ≤ length out₀
      → Looped out₀ j xs f i out r → i < length xs → r + c ≤ length out
  loop_room c {i} {out} {r} u room l h =
      let a : length (take i xs) ≡ i = length-take-le i xs (omega arith) in
      let b : length (each (take i xs) f) ≡ i * c = length-each (take i xs) f c u ∙ ap (λ k. k * c) a in
      omega (arith, l.put.next, put_length l.put, mul-le-mul_right c h, suc-mul i c)
