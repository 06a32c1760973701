-- Answers, one visit and one pass at a time.
use Prim.Native.Nat.{ℕ, zero, suc, ◌+◌, ◌-◌, ◌≤◌, ◌<◌}
use mathlib.Core.Path.{◌≡◌, refl, sym, ap, ap₂, ◌∙◌}
use mathlib.Core.Bool.{Bool, true, false}
use mathlib.Core.List.{List, [], ◌∷◌, ◌++◌, Memᴰ}
use native.Mathlib.Omega.{arith}
use native.Mathlib.Numerals.{add-one}
use native.Mathlib.Nat.{add-zero, add-suc}
use lib.ListN.{length, get_or, drop, drop_of_length-le}
use lib.Seq.{drop-cons}
use borrow.Author.Tests.{eq-eqb, ne_eqb, lt-ltb, le-ltb}
use Rattle.ground.specs.Choice.{pick}
use Rattle.search_theory.specs.Search.{Reply, none, found, or_else, first_of, Task, bars, dfs, passes}

pub never_found {ℓ} : {A : Type ℓ} {p : List ℕ} → none ≡ found p → A
never_found {p = p} e = let z : ◌≡◌ {A = ℕ} 0 1 = cc in absurd (omega arith)

pub unfound : {p q : List ℕ} → found p ≡ found q → p ≡ q
unfound e = cc

-- an answer that was picked
pub picked {ℓ} : {A : Type ℓ} (b : Bool) {x y r : Reply} → pick b x y ≡ r → (b ≡ true → x ≡ r → A) → (b ≡ false → y ≡ r → A) → A
picked true e f g = f refl e
picked false e f g = g refl e

pub else_found {ℓ} : {A : Type ℓ} (a : Reply) {b : Reply} {p : List ℕ} → or_else a b ≡ found p → (a ≡ found p → A) → (a ≡ none → b ≡ found p → A) → A
unfolding or_else
else_found none e f g = g refl e
else_found (found q) e f g = f e

pub else_none : (a : Reply) {b : Reply} → or_else a b ≡ none → (a ≡ none) × (b ≡ none)
unfolding or_else
else_none none e = (refl, e)
else_none (found q) e = never_found (sym e)

pub first_none : (f : ℕ → Reply) (cs : List ℕ) → first_of f cs ≡ none → {c : ℕ} → Memᴰ c cs → f c ≡ none
unfolding first_of
first_none f [] e m = elim m [ ]
first_none f (x ∷ cs) e (Memᴰ.head h) = ap f h ∙ (else_none (f x) e).0
first_none f (x ∷ cs) e (Memᴰ.tail m) = first_none f cs (else_none (f x) e).1 m

-- what answers alike at each argument has one first list
pub first_same : (f g : ℕ → Reply) (cs : List ℕ) → ((c : ℕ) → Memᴰ c cs → f c ≡ g c) → first_of f cs ≡ first_of g cs
unfolding first_of
first_same f g [] h = refl
first_same f g (c ∷ cs) h = ap₂ or_else (h c (Memᴰ.head refl)) (first_same f g cs (λ d m. h d (Memᴰ.tail m)))

-- a walk that comes to place i: the first list of what is left
module _ (f : ℕ → Reply) (cs : List ℕ) (i : ℕ) where
  pub first_next : i < length cs → f (get_or cs i 0) ≡ none → first_of f (drop i cs) ≡ first_of f (drop (i + 1) cs)
  unfolding first_of or_else
  first_next h e = rw (add-one i, drop-cons cs i 0 h, e)

  pub first_here : {p : List ℕ} → i < length cs → f (get_or cs i 0) ≡ found p → first_of f (drop i cs) ≡ found p
  unfolding first_of or_else
  first_here h e = rw (drop-cons cs i 0 h, e)

  pub first_end : length cs ≤ i → first_of f (drop i cs) ≡ none
  unfolding first_of
  first_end h = rw (drop_of_length-le cs h)

-- the last of the moves made is the one that was added
pub bars_snoc : (barred : ℕ → ℕ → Bool) (path : List ℕ) (a c : ℕ) → bars barred (path ++ (a ∷ [])) c ≡ barred a c
unfolding bars
bars_snoc barred [] a c = refl
bars_snoc barred (x ∷ []) a c = refl
bars_snoc barred (x ∷ y ∷ path) a c = bars_snoc barred (y ∷ path) a c

module _ (t : Task) where
  -- what a visit with k + 1 moves left tries at a candidate
  abbrev pub tried : ℕ → List ℕ → List ℕ → ℕ → Reply
  tried k path s c = pick (bars t.barred path c) none (dfs t k (path ++ (c ∷ [])) (t.moved c s))

  pub tried_barred : (k : ℕ) (path s : List ℕ) (c : ℕ) → bars t.barred path c ≡ true → tried k path s c ≡ none
  tried_barred k path s c e = rw e

  pub tried_free : (k : ℕ) (path s : List ℕ) (c : ℕ) → bars t.barred path c ≡ false
      → tried k path s c ≡ dfs t k (path ++ (c ∷ [])) (t.moved c s)
  tried_free k path s c e = rw e

  -- a visit: at a goal, above the bound, or the candidates
  pub at_goal : (k : ℕ) (path s : List ℕ) → t.number s ≡ 0 → dfs t k path s ≡ found path
  unfolding dfs
  at_goal zero path s e = rw (eq-eqb _ _ e)
  at_goal (suc k) path s e = rw (eq-eqb _ _ e)

  pub above : (k : ℕ) (path s : List ℕ) → (t.number s ≡ 0 → ⊥) → k < t.number s → dfs t k path s ≡ none
  unfolding dfs
  above zero path s e h = rw (ne_eqb _ _ e)
  above (suc k) path s e h = rw (ne_eqb _ _ e, lt-ltb _ _ h)

  pub opened : (k : ℕ) (path s : List ℕ) → (t.number s ≡ 0 → ⊥) → t.number s ≤ k
      → dfs t k path s ≡ first_of (tried (k - 1) path s) t.candidates
  unfolding dfs
  opened zero path s e h = absurd (e (omega arith))
  opened (suc k) path s e h =
      let d : suc k - 1 ≡ k = omega arith in
      rw (ne_eqb _ _ e, le-ltb _ _ h, d)

  -- the passes: one more, and that a list once found stays
  pub pass_next : (n : ℕ) (s : List ℕ) {r : Reply} → passes t n s ≡ none → dfs t n [] s ≡ r → passes t (n + 1) s ≡ r
  unfolding passes or_else
  pass_next n s e d = rw (add-one n, e, d)

  pub pass_stays : (n m : ℕ) (s : List ℕ) {p : List ℕ} → passes t n s ≡ found p → passes t (n + m) s ≡ found p
  unfolding passes or_else
  pass_stays n zero s e = rw (add-zero n) e
  pass_stays n (suc m) s e = rw (add-suc n m, pass_stays n m s e)
