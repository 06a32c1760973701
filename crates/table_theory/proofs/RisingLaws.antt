-- Rising keys: those that stand among others are no more than these, and two of which each stand among the other are one. So there is
-- one exact table.
use Prim.Native.Nat.{ℕ, zero, suc, ◌≤◌, ◌<◌}
use mathlib.Core.Path.{◌≡◌, refl, sym, ap, subst, ◌∙◌}
use mathlib.Core.List.{List}
use native.Mathlib.Omega.{arith}
use Rattle.ground.proofs.ChoiceLaws.{order_cases}
use Rattle.std.specs.declared.cmp.Ordering.TheVariants.{Less}
use Rattle.table.specs.Order.{order_of}
use Rattle.table.proofs.OrderLaws.{less_trans, less_irrefl}
use Rattle.table.specs.Entries.{Rising, Present}
use Rattle.search_theory.specs.Levels.{ReachIn, Least, Exact}

-- n keys, each of which stands among n' keys
module _ {k k' : ℕ → List ℕ} {n n' : ℕ} (up : Rising k n) (up' : Rising k' n') (into : (i : ℕ) → i < n → Present k' n' (k i)) where
  -- a later one stands later
  later : (i j : ℕ) (hi : i < n) (hj : j < n) → i < j → (into i hi).0 < (into j hj).0
  unfolding Rising
  later i j hi hj lt =
      order_cases (into i hi).0 (into j hj).0 (λ h. h)
      (λ e. absurd (less_irrefl (k i) (subst (λ (x : List ℕ). order_of (k i) x ≡ Less) (sym (into j hj).2 ∙ ap k' (sym e) ∙ (into i hi).2) (up i j lt hj))))
      (λ gt.
      absurd (less_irrefl (k i)
      (less_trans (k i) (k j) (k i) (up i j lt hj)
      (subst (λ (x : List ℕ). order_of x (k i) ≡ Less) (into j hj).2
      (subst (λ (x : List ℕ). order_of (k' (into j hj).0) x ≡ Less) (into i hi).2 (up' (into j hj).0 (into i hi).0 gt (into i hi).1))))))

  -- so each stands at its own place or later, and there are no more of them
  pub place_least : (i : ℕ) (h : i < n) → i ≤ (into i h).0
  place_least zero h = omega arith
  place_least (suc i) h =
      let b : i < n = omega arith in
      omega (arith, place_least i b, later i (suc i) b h (omega arith))

  pub no_more : n ≤ n'
  no_more = count n refl
    where
      count : (m : ℕ) → n ≡ m → n ≤ n'
      count zero e = omega arith
      count (suc m) e = let h : m < n = omega arith in omega (arith, place_least m h, (into m h).1)

-- and where each stands among the other, they are one
module _ {k k' : ℕ → List ℕ} {n n' : ℕ} (up : Rising k n) (up' : Rising k' n') (into : (i : ℕ) → i < n → Present k' n' (k i))
    (back_into : (i : ℕ) → i < n' → Present k n (k' i)) where
  pub same_count : n ≡ n'
  same_count = omega (arith, no_more up up' into, no_more up' up back_into)

  pub same_keys : (i : ℕ) → i < n → k i ≡ k' i
  unfolding Rising
  same_keys i h =
      let h' : i < n' = omega (arith, same_count) in
      let p = into i h in
      let q = back_into i h' in
      order_cases p.0 i
      (λ lt. absurd (omega (arith, place_least up up' into i h)))
      (λ e. sym p.2 ∙ ap k' e)
      (λ gt.
      order_cases q.0 i
      (λ lt. absurd (omega (arith, place_least up' up back_into i h')))
      (λ e. ap k (sym e) ∙ q.2)
      (λ gt'.
      absurd (less_irrefl (k i)
      (less_trans (k i) (k' i) (k i)
      (subst (λ (x : List ℕ). order_of (k i) x ≡ Less) q.2 (up i q.0 gt' q.1))
      (subst (λ (x : List ℕ). order_of (k' i) x ≡ Less) p.2 (up' i p.0 gt p.1))))))

module _ (moved : ℕ → List ℕ → List ℕ) (candidates : List ℕ) (Start : List ℕ → Type 0) {depth : ℕ} where
  -- the same keys and numbers are exact too
  pub exact_cast : {k k' : ℕ → List ℕ} {v v' : ℕ → ℕ} {n : ℕ} → ((i : ℕ) → i < n → k i ≡ k' i) → ((i : ℕ) → i < n → v i ≡ v' i)
      → Exact moved candidates Start depth k v n → Exact moved candidates Start depth k' v' n
  exact_cast {k} {k'} {v} {v'} ek ev e =
      record {
        shallow = λ i h. subst (λ (x : ℕ). x ≤ depth) (ev i h) (e.shallow i h);
        right = λ i h. subst (λ (x : ℕ). Least moved candidates Start x (k' i)) (ev i h) (subst (Least moved candidates Start (v i)) (ek i h) (e.right i h));
        whole = λ j s h r. let p = e.whole j s h r in (p.0, p.1, sym (ek p.0 p.1) ∙ p.2);
      }

  -- two exact tables whose keys rise are one, entry by entry
  module _ {k k' : ℕ → List ℕ} {v v' : ℕ → ℕ} {n n' : ℕ} (up : Rising k n) (up' : Rising k' n') (e : Exact moved candidates Start depth k v n)
      (e' : Exact moved candidates Start depth k' v' n') where
    into : (i : ℕ) → i < n → Present k' n' (k i)
    into i h = e'.whole (v i) (k i) (e.shallow i h) (e.right i h).reached

    back_into : (i : ℕ) → i < n' → Present k n (k' i)
    back_into i h = e.whole (v' i) (k' i) (e'.shallow i h) (e'.right i h).reached

    pub exact_count : n ≡ n'
    exact_count = same_count up up' into back_into

    pub exact_key : (i : ℕ) → i < n → k i ≡ k' i
    exact_key i h = same_keys up up' into back_into i h

    pub exact_number : (i : ℕ) → i < n → v i ≡ v' i
    exact_number i h =
        let p = e.right i h in
        let q = e'.right i (omega (arith, exact_count)) in
        order_cases (v i) (v' i)
        (λ lt. absurd (q.least (v i) lt (subst (ReachIn moved candidates Start (v i)) (exact_key i h) p.reached)))
        (λ q. q)
        (λ gt. absurd (p.least (v' i) gt (subst (ReachIn moved candidates Start (v' i)) (sym (exact_key i h)) q.reached)))
