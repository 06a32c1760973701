-- Laws of choices and of tests: a walk that comes to a place, what a test that failed says, and where an element stands.
use Prim.Native.Nat.{ℕ, zero, suc, ◌+◌, ◌<◌, ◌≤◌}
use mathlib.Core.Path.{◌≡◌, refl, ap, sym, ◌∙◌}
use mathlib.Core.Bool.{Bool, true, false, not, true≢false}
use mathlib.Core.Logic.{⊎_elim}
use mathlib.Core.List.Memᴰ
use mathlib.Core.List.{List, [], ◌∷◌, ◌++◌, Memᴰ}
use native.Mathlib.Numerals.{add-one}
use native.Mathlib.Omega.{arith}
use native.Mathlib.Nat.{eq-or-lt_of_le}
use lib.Dec.{eqb, ltb, leb}
use lib.ListN.{length, get_or, drop, drop_of_length-le}
use lib.Seq.{drop-cons}
use borrow.Author.Tests.{eq-eqb, eqb-true, eqb-false, not-false, ltb-true, ltb-false, leb-true, le-leb, lt-leb}
use Rattle.ground.specs.Choice.{pick, between, any, all, position}

-- a test is true or false
pub bool_cases {ℓ} : {A : Type ℓ} (t : Bool) → (t ≡ true → A) → (t ≡ false → A) → A
bool_cases true f g = f refl
bool_cases false f g = g refl

-- one number is less than another, or it is not
pub less_cases {ℓ} : {A : Type ℓ} (a b : ℕ) → (a < b → A) → (b ≤ a → A) → A
less_cases a b f g = bool_cases (ltb a b) (λ t. f (ltb-true a b t)) (λ t. g (ltb-false a b t))

-- it is less, they are equal, or the other is less
pub order_cases {ℓ} : {A : Type ℓ} (a b : ℕ) → (a < b → A) → (a ≡ b → A) → (b < a → A) → A
order_cases a b f g h = less_cases a b f (λ ge. less_cases b a h (λ le. g (omega arith)))

-- a number in a range, and the two ways out of it
pub between_bounds : (low high x : ℕ) → between low high x ≡ true → (low ≤ x) × (x ≤ high)
unfolding between
between_bounds low high x e =
    bool_cases (leb low x)
    (λ t. (leb-true low x t, leb-true x high (rw t at e)))
    (λ t. absurd (true≢false (sym (rw t at e))))

pub bounds_between : (low high x : ℕ) → low ≤ x → x ≤ high → between low high x ≡ true
unfolding between
bounds_between low high x a b = rw (le-leb low x a, le-leb x high b)

pub under_between : (low high x : ℕ) → x < low → between low high x ≡ false
unfolding between
under_between low high x a = rw (lt-leb low x a)

pub over-between : (low high x : ℕ) → low ≤ x → high < x → between low high x ≡ false
unfolding between
over-between low high x a b = rw (le-leb low x a, lt-leb x high b)

-- a walk that comes to place i: the test of what is left
module _ (p : ℕ → Bool) (xs : List ℕ) (i : ℕ) where
  pub any_here : i < length xs → p (get_or xs i 0) ≡ true → any p (drop i xs) ≡ true
  unfolding any
  any_here h t = rw (drop-cons xs i 0 h, t)

  pub any_next : i < length xs → p (get_or xs i 0) ≡ false → any p (drop i xs) ≡ any p (drop (i + 1) xs)
  unfolding any
  any_next h t = rw (add-one i, drop-cons xs i 0 h, t)

  pub any_end : length xs ≤ i → any p (drop i xs) ≡ false
  unfolding any
  any_end h = rw (drop_of_length-le xs h)

  pub all_here : i < length xs → p (get_or xs i 0) ≡ false → all p (drop i xs) ≡ false
  unfolding all
  all_here h t = rw (drop-cons xs i 0 h, t)

  pub all-next : i < length xs → p (get_or xs i 0) ≡ true → all p (drop i xs) ≡ all p (drop (i + 1) xs)
  unfolding all
  all-next h t = rw (add-one i, drop-cons xs i 0 h, t)

  pub all_end : length xs ≤ i → all p (drop i xs) ≡ true
  unfolding all
  all_end h = rw (drop_of_length-le xs h)

-- where the test holds of no element, it fails at each
pub any_none : (p : ℕ → Bool) (xs : List ℕ) → any p xs ≡ false → (i : ℕ) → i < length xs → p (get_or xs i 0) ≡ false
unfolding any
any_none p [] e i h = absurd (omega arith)
any_none p (x ∷ xs) e zero h = bool_cases (p x) (λ t. absurd (true≢false (rw t at e))) (λ t. t)
any_none p (x ∷ xs) e (suc i) h =
    any_none p xs (bool_cases (p x) (λ t. absurd (true≢false (rw t at e))) (λ t. rw t at e)) i (omega arith)

pub any_append : (p : ℕ → Bool) (xs ys : List ℕ) → any p xs ≡ false → any p ys ≡ false → any p (xs ++ ys) ≡ false
unfolding any
any_append p [] ys e d = d
any_append p (x ∷ xs) ys e d =
    bool_cases (p x)
    (λ t. absurd (true≢false (rw t at e)))
    (λ t. rw t (any_append p xs ys (rw t at e) d))

pub position_most : (b : ℕ) (xs : List ℕ) → position b xs ≤ length xs
unfolding position
position_most b [] = omega arith
position_most b (x ∷ xs) =
    bool_cases (eqb x b) (λ t. rw t (omega arith)) (λ t. rw t (omega (arith, position_most b xs)))

-- what stands at the place that was found
pub position_found : (b : ℕ) (xs : List ℕ) → position b xs < length xs → get_or xs (position b xs) 0 ≡ b
unfolding position
position_found b [] h = absurd (omega arith)
position_found b (x ∷ xs) h =
    bool_cases (eqb x b)
    (λ t. rw t (eqb-true x b t))
    (λ t. rw t (position_found b xs (let k = rw t at h in omega arith)))

-- a list's head is at place 0, any other element one place further than in its tail
pub position_cases {ℓ} : {A : Type ℓ} (b x : ℕ) (xs : List ℕ) → (x ≡ b → position b (x ∷ xs) ≡ 0 → A)
    → (position b (x ∷ xs) ≡ suc (position b xs) → A) → A
unfolding position
position_cases b x xs f g = bool_cases (eqb x b) (λ t. f (eqb-true x b t) (rw t)) (λ t. g (rw t))

pub position_head : (x : ℕ) (xs : List ℕ) → position x (x ∷ xs) ≡ 0
unfolding position
position_head x xs = rw (eq-eqb x x refl)

-- an element has its place in the list, and elements at one place are one
pub position_below : (b : ℕ) (xs : List ℕ) → Memᴰ b xs → position b xs < length xs
unfolding position
position_below b [] m = absurd (Memᴰ.not-nil m)
position_below b (x ∷ xs) m =
    bool_cases (eqb x b) (λ t. rw t (omega arith))
    (λ t. rw t (⊎_elim (λ e. absurd (eqb-false x b t (sym e))) (λ w. omega (arith, position_below b xs w)) (Memᴰ.cases_cons m)))

pub position_one : (a b : ℕ) (xs : List ℕ) → Memᴰ a xs → Memᴰ b xs → position a xs ≡ position b xs → a ≡ b
position_one a b xs ma mb e =
    sym (position_found a xs (position_below a xs ma)) ∙ ap (λ i. get_or xs i 0) e ∙ position_found b xs (position_below b xs mb)

-- whether the test holds of a number below m
unfoldable pub any_below : (ℕ → Bool) → ℕ → Bool
any_below p zero = false
any_below p (suc m) = pick (p m) true (any_below p m)

pub below_found : (p : ℕ → Bool) (j m : ℕ) → j < m → p j ≡ true → any_below p m ≡ true
unfolding any_below
below_found p j zero h t = absurd (omega arith)
below_found p j (suc m) h t =
    bool_cases (p m) (λ u. rw u)
    (λ u. rw u (below_found p j m (less u) t))
  where
    less : p m ≡ false → j < m
    less u = ⊎_elim (λ e. absurd (true≢false (sym t ∙ ap p e ∙ u))) (λ l. l) (eq-or-lt_of_le {n = j} {m = m} (omega arith))

pub below_none : (p : ℕ → Bool) (m : ℕ) → any_below p m ≡ false → (j : ℕ) → j < m → p j ≡ false
below_none p m e j h = bool_cases (p j) (λ t. absurd (true≢false (sym (below_found p j m h t) ∙ e))) (λ t. t)

-- a rule that a computed test shows of every number below m
pub tested : (p : ℕ → Bool) (m : ℕ) → any_below (λ i. not (p i)) m ≡ false → (i : ℕ) → i < m → p i ≡ true
tested p m e i h = not-false (p i) (below_none (λ k. not (p k)) m e i h)
