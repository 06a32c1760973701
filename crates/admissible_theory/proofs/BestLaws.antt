-- Demand 3: with numbers that are never too high, the answer of the rising passes is the best one, and there is but one such answer.
use Prim.Native.Nat.{ℕ, zero, suc, ◌≤◌, ◌<◌}
use mathlib.Core.Path.{◌≡◌, refl, sym, ap, ap₂, subst, ◌∙◌}
use mathlib.Core.Logic.{inl, inr, ⊎_elim}
use mathlib.Core.List.Memᴰ
use mathlib.Core.List.{List, [], ◌∷◌, Memᴰ}
use native.Mathlib.Omega.{arith}
use lib.ListN.{length}
use Rattle.ground.specs.Choice.{position}
use Rattle.ground.proofs.ChoiceLaws.{position_one, less_cases, order_cases}
use Rattle.search_theory.specs.Search.{Reply, none, found, Task, passes, ida, run_task, Solves, NoLater, Admissible, Best}
use Rattle.search_theory.proofs.SearchLaws.{never_found, else_found, else_none}
use Rattle.search_theory.proofs.PathFreeLaws.{seek, sought_none, Way, visited, missed, no_goal, Ends, ends_next, solves_ends, ends_solves, sound, dfs_start}

-- states that the candidates keep
abbrev pub KeepsStates : Task → (List ℕ → Type 0) → Type 0
KeepsStates t State = (c : ℕ) → Memᴰ c t.candidates → (s : List ℕ) → State s → State (t.moved c s)

module _ (t : Task) (State : List ℕ → Type 0) (kept : KeepsStates t State) (low : Admissible t State) where
  -- none: no list within the moves left reaches a goal
  pub complete : (k : ℕ) {l s : List ℕ} (q : List ℕ) → State s → seek t k l s ≡ none → Ends t l s q → length q ≤ k → ⊥
  unfolding run_task
  complete k {l} {s} [] st e a b = no_goal t k l s e a.goal
  complete zero (c ∷ q) st e a b = omega arith
  complete (suc k) {l} {s} (c ∷ q) st e a b =
      let n : t.number s ≤ length (c ∷ q) = low s st (c ∷ q) (ends_solves t a) in
      complete k q (kept c a.follows.0 s st) (sought_none t k l s c a.follows.1 (missed t k l s e (omega arith) a.follows.0)) (ends_next t a) (omega arith)

  -- a list: none of its length is before it
  pub foremost : (k : ℕ) {l s : List ℕ} (p q : List ℕ) → State s → seek t k l s ≡ found p → Ends t l s q → length q ≡ length p → NoLater t p q
  foremost k [] q st e a h = tt
  foremost k (x ∷ p) [] st e a h = omega arith
  foremost zero (x ∷ p) (y ∷ q) st e a h = absurd (omega (arith, (sound t zero e).within))
  foremost (suc k) {l} {s} (x ∷ p) (y ∷ q) st e a h =
      visited t e (λ g n. let z : ◌≡◌ {A = ℕ} 0 1 = cc in absurd (omega arith))
      (λ w. split w (λ d. foremost k p q (kept y a.follows.0 s st) d (ends_next t a) (omega arith)))
    where
      split : Way t k l s (x ∷ p) → (seek t k (y ∷ []) (t.moved y s) ≡ found p → NoLater t p q) → NoLater t (x ∷ p) (y ∷ q)
      split w rest =
          let at : w.at ≡ x = cc w.is in
          order_cases (position y t.candidates) (position x t.candidates)
          (λ lt. absurd (complete k q (kept y a.follows.0 s st)
          (sought_none t k l s y a.follows.1 (w.before y (subst (λ z. position y t.candidates < position z t.candidates) (sym at) lt)))
          (ends_next t a) (omega (arith, (sound t (suc k) e).within))))
          (λ eq.
          let xy : x ≡ y = position_one x y t.candidates (Memᴰ.cast (sym at) w.member) a.follows.0 (sym eq) in
          inr (xy, rest (cc (w.down, w.is))))
          (λ gt. inl gt)

  -- n passes found no list: none shorter than n reaches a goal
  passes_none : (n : ℕ) {s : List ℕ} → State s → passes t n s ≡ none → (q : List ℕ) → Solves t s q → length q < n → ⊥
  unfolding passes
  passes_none zero st e q a lt = omega arith
  passes_none (suc n) {s} st e q a lt = complete n q st (sym (dfs_start t n s) ∙ (else_none (passes t n s) e).1) (solves_ends t a) (omega arith)

  -- the pass that found a list, the first that did
  record FoundPass (n : ℕ) (s p : List ℕ) : Type 0 where
    at : ℕ
    under : at < n
    hit : seek t at [] s ≡ found p
    before : passes t at s ≡ none

  found_pass : (n : ℕ) {s p : List ℕ} → passes t n s ≡ found p → FoundPass n s p
  unfolding passes
  found_pass zero e = never_found e
  found_pass (suc n) {s} {p} e =
      else_found (passes t n s) e
      (λ h. let r = found_pass n h in record { at = r.at; under = omega (arith, r.under); hit = r.hit; before = r.before })
      (λ h g. record { at = n; under = omega arith; hit = sym (dfs_start t n s) ∙ g; before = h })

  pub best : (limit : ℕ) (s : List ℕ) → State s → Best t limit s (ida t limit s)
  best limit s st = go (ida t limit s) refl
    where
      go : (r : Reply) → ida t limit s ≡ r → Best t limit s r
      go none e = λ q a le. passes_none (suc limit) st e q a (omega arith)
      go (found p) e =
          let r = found_pass (suc limit) e in
          let so = sound t r.at r.hit in
          record {
            solves = ends_solves t so.ends;
            within = omega (arith, so.within, r.under);
            shortest = λ q a. less_cases (length q) r.at (λ lt. absurd (passes_none r.at st r.before q a lt)) (λ ge. omega (arith, so.within));
            leads = λ q a h. foremost r.at p q st r.hit (solves_ends t a) h;
          }

-- two lists of one length, each no later than the other, are one
leads_one : (t : Task) (p q : List ℕ) → length p ≡ length q → NoLater t p q → NoLater t q p → p ≡ q
leads_one t [] [] e a b = refl
leads_one t [] (y ∷ q) e a b = absurd (omega arith)
leads_one t (x ∷ p) [] e a b = absurd (omega arith)
leads_one t (x ∷ p) (y ∷ q) e a b =
    ⊎_elim
    (λ h. ⊎_elim (λ g. absurd (omega arith)) (λ g. absurd (omega (arith, ap (λ z. position z t.candidates) g.0))) b)
    (λ h. ⊎_elim (λ g. absurd (omega (arith, ap (λ z. position z t.candidates) h.0))) (λ g. ap₂ ◌∷◌ h.0 (leads_one t p q (omega arith) h.1 g.1)) b)
    a

-- what is wanted of an answer leaves one
pub best_one : (t : Task) (limit : ℕ) (s : List ℕ) (r r' : Reply) → Best t limit s r → Best t limit s r' → r ≡ r'
best_one t limit s none none a b = refl
best_one t limit s none (found p) a b = absurd (a p b.solves b.within)
best_one t limit s (found p) none a b = absurd (b p a.solves a.within)
best_one t limit s (found p) (found q) a b =
    let e : length p ≡ length q = omega (arith, a.shortest q b.solves, b.shortest p a.solves) in
    ap found (leads_one t p q e (a.leads q b.solves (sym e)) (b.leads p a.solves e))
