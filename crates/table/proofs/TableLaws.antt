-- Laws of entries, of lookups and of keys that rise.
use mathlib.Core.Path.{◌≡◌, refl, sym, ap, ap₂, subst, ◌∙◌}
use mathlib.Core.List.{List, ◌∷◌}
use mathlib.Core.Bool.{Bool, true, false, ◌&&◌, true≢false}
use mathlib.Core.Logic.{⊎_elim}
use Prim.Native.Nat.{ℕ, zero, suc, ◌+◌, ◌-◌, ◌*◌, ◌%◌, ◌≤◌, ◌<◌}
use native.Mathlib.Nat.{le-div_iff_mul-le, suc-mul, div-le_self, eq-or-lt_of_le, zero-mul}
use native.Mathlib.Numerals.{add-one}
use native.Mathlib.Omega.{arith}
use lib.Dec.{eqb}
use lib.ListN.{length, drop, length-drop}
use lib.Seq.{length-take-le, drop-drop, get_or-drop}
use borrow.Author.Tests.{eq-eqb, ne_eqb}
use Rattle.ground.specs.Choice.{pick}
use Rattle.ground.proofs.ChoiceLaws.{bool_cases, less_cases}
use Rattle.std.specs.declared.cmp.Ordering.TheVariants.{Less, Equal, Greater}
use Rattle.table.specs.Order.{order_of}
use Rattle.std.specs.Ordering.{is_eq, is_lt}
use Rattle.table.proofs.OrderLaws.{order_split, same_eq, eq_same, more_flip, less_trans, less_irrefl, is_less_lem, less_not_same}
use Rattle.table.specs.Table.{Entry, numbered, entry_count, first_entries, entries_of, number_for, keys_rise, state_number, well_formed}
use Rattle.table.specs.Entries.{entry_key, entry_number, Rising}

-- an entry lies within its table
pub fits : (m i : ℕ) (t : List ℕ) → i < entry_count m t → i * (m + 1) + (m + 1) ≤ length t
fits m i t lt =
    let h : suc i * (m + 1) ≤ length t = (le-div_iff_mul-le {k = m + 1} {x = suc i} (omega arith)).0 lt in
    omega (arith, suc-mul i (m + 1))

pub length_key : (m i : ℕ) (t : List ℕ) → i < entry_count m t → length (entry_key m t i) ≡ m
length_key m i t lt = length-take-le m (drop (i * (m + 1)) t) (omega (arith, fits m i t lt, length-drop (i * (m + 1)) t))

-- there are no more entries than bytes
pub entries_most : (m : ℕ) (t : List ℕ) → entry_count m t ≤ length t
entries_most m t = div-le_self (length t) (m + 1)

-- the number beside the first of n keys from i on that is s, or d where none is; and each of n keys from i on is less than the next
unfoldable pub look_from : (ℕ → List ℕ) → (ℕ → ℕ) → List ℕ → ℕ → ℕ → ℕ → ℕ
look_from key number s d i zero = d
look_from key number s d i (suc n) = pick (is_eq (order_of (key i) s)) (number i) (look_from key number s d (suc i) n)

unfoldable pub rises_from : (ℕ → List ℕ) → ℕ → ℕ → Bool
rises_from key i zero = true
rises_from key i (suc n) = pick (is_lt (order_of (key i) (key (suc i)))) (rises_from key (suc i) n) false

-- the entries of a slice from entry i on, by their places
entry_drop : (m i : ℕ) (t : List ℕ) → drop (m + 1) (drop (i * (m + 1)) t) ≡ drop (suc i * (m + 1)) t
entry_drop m i t =
    let e : i * (m + 1) + (m + 1) ≡ suc i * (m + 1) = omega (arith, suc-mul i (m + 1)) in
    drop-drop (m + 1) (i * (m + 1)) t ∙ ap (λ (k : ℕ). drop k t) e

entries_step : (m i n : ℕ) (t : List ℕ) → first_entries m (suc n) (drop (i * (m + 1)) t)
    ≡ numbered (entry_key m t i) (entry_number m t i) ∷ first_entries m n (drop (suc i * (m + 1)) t)
unfolding first_entries
entries_step m i n t =
    ap₂ (λ (v : ℕ) (l : List ℕ). numbered (entry_key m t i) v ∷ first_entries m n l) (get_or-drop (i * (m + 1)) t m 0) (entry_drop m i t)

number_from : (m : ℕ) (t s : List ℕ) (d i n : ℕ)
    → number_for s d (first_entries m n (drop (i * (m + 1)) t)) ≡ look_from (entry_key m t) (entry_number m t) s d i n
unfolding number_for look_from first_entries
number_from m t s d i zero = refl
number_from m t s d i (suc n) =
    ap (number_for s d) (entries_step m i n t)
    ∙ ap (λ (r : ℕ). pick (is_eq (order_of (entry_key m t i) s)) (entry_number m t i) r) (number_from m t s d (suc i) n)

slice_start : (m : ℕ) (t : List ℕ) → drop (0 * (m + 1)) t ≡ t
slice_start m t = ap (λ (k : ℕ). drop k t) (zero-mul (m + 1))

pub entries_look : (m : ℕ) (t s : List ℕ) (d : ℕ)
    → number_for s d (entries_of m t) ≡ look_from (entry_key m t) (entry_number m t) s d 0 (entry_count m t)
entries_look m t s d =
    ap (λ (l : List ℕ). number_for s d (first_entries m (entry_count m t) l)) (sym (slice_start m t))
    ∙ number_from m t s d 0 (entry_count m t)

pub number_look : (m : ℕ) (t : List ℕ) (depth : ℕ) (s : List ℕ)
    → state_number m t depth s ≡ look_from (entry_key m t) (entry_number m t) s (depth + 1) 0 (entry_count m t)
unfolding state_number
number_look m t depth s = entries_look m t s (depth + 1)

both_pick : (t u : Bool) → (t && u) ≡ pick t u false
both_pick true u = refl
both_pick false u = refl

rise_from : (m : ℕ) (t : List ℕ) (i n : ℕ) → keys_rise (first_entries m (suc n) (drop (i * (m + 1)) t)) ≡ rises_from (entry_key m t) i n
unfolding keys_rise rises_from first_entries
rise_from m t i zero = refl
rise_from m t i (suc n) =
    ap keys_rise (entries_step m i (suc n) t ∙ ap (λ (l : List Entry). numbered (entry_key m t i) (entry_number m t i) ∷ l) (entries_step m (suc i) n t))
    ∙ both_pick (is_lt (order_of (entry_key m t i) (entry_key m t (suc i))))
    (keys_rise (numbered (entry_key m t (suc i)) (entry_number m t (suc i)) ∷ first_entries m n (drop (suc (suc i) * (m + 1)) t)))
    ∙ ap (λ (b : Bool). pick (is_lt (order_of (entry_key m t i) (entry_key m t (suc i)))) b false)
    (ap keys_rise (sym (entries_step m (suc i) n t)) ∙ rise_from m t (suc i) n)

rise_all : (m : ℕ) (t : List ℕ) (n : ℕ) → keys_rise (first_entries m n t) ≡ rises_from (entry_key m t) 0 (n - 1)
unfolding keys_rise rises_from first_entries
rise_all m t zero = refl
rise_all m t (suc n) =
    let e : suc n - 1 ≡ n = omega arith in
    ap (λ (l : List ℕ). keys_rise (first_entries m (suc n) l)) (sym (slice_start m t)) ∙ rise_from m t 0 n ∙ ap (rises_from (entry_key m t) 0) (sym e)

form_from : (m : ℕ) (t : List ℕ) → well_formed m t ≡ pick (eqb (length t % (m + 1)) 0) (rises_from (entry_key m t) 0 (entry_count m t - 1)) false
unfolding well_formed
form_from m t =
    both_pick (eqb (length t % (m + 1)) 0) (keys_rise (entries_of m t))
    ∙ ap (λ (b : Bool). pick (eqb (length t % (m + 1)) 0) b false) (rise_all m t (entry_count m t))

-- a table that isn't whole entries
pub form_cut : (m : ℕ) (t : List ℕ) → (length t % (m + 1) ≡ 0 → ⊥) → well_formed m t ≡ false
form_cut m t e = form_from m t ∙ rw (ne_eqb (length t % (m + 1)) 0 e)

-- keys of which each is less than the next rise
both : (t u : Bool) → pick t u false ≡ true → (t ≡ true) × (u ≡ true)
both true u e = (refl, e)
both false u e = absurd (true≢false (sym e))

rises_at : (k : ℕ → List ℕ) (i n : ℕ) → rises_from k i n ≡ true → (j : ℕ) → i ≤ j → j < i + n → order_of (k j) (k (suc j)) ≡ Less
unfolding rises_from
rises_at k i zero e j le lt = absurd (omega arith)
rises_at k i (suc n) e j le lt =
    let w = both (is_lt (order_of (k i) (k (suc i)))) (rises_from k (suc i) n) e in
    ⊎_elim (λ (h : i ≡ j). subst (λ (a : ℕ). order_of (k a) (k (suc a)) ≡ Less) h (is_less_lem _ w.0))
    (λ (h : i < j). rises_at k (suc i) n w.1 j h (omega arith)) (eq-or-lt_of_le le)

chain : (k : ℕ → List ℕ) (n : ℕ) → ((j : ℕ) → suc j < n → order_of (k j) (k (suc j)) ≡ Less)
    → (i d : ℕ) → i + suc d < n → order_of (k i) (k (i + suc d)) ≡ Less
chain k n step i zero lt =
    let e : i + 1 ≡ suc i = add-one i in
    subst (λ (a : ℕ). order_of (k i) (k a) ≡ Less) (sym e) (step i (omega arith))
chain k n step i (suc d) lt =
    let e : i + suc (suc d) ≡ suc (i + suc d) = omega arith in
    subst (λ (a : ℕ). order_of (k i) (k a) ≡ Less) (sym e)
    (less_trans (k i) (k (i + suc d)) (k (suc (i + suc d))) (chain k n step i d (omega arith)) (step (i + suc d) (omega arith)))

pub formed_rising : (m : ℕ) (t : List ℕ) → well_formed m t ≡ true → Rising (entry_key m t) (entry_count m t)
unfolding Rising
formed_rising m t e i j lt le =
    let w = both (eqb (length t % (m + 1)) 0) (rises_from (entry_key m t) 0 (entry_count m t - 1)) (sym (form_from m t) ∙ e) in
    let d : i + suc (j - i - 1) ≡ j = omega arith in
    subst (λ (a : ℕ). order_of (entry_key m t i) (entry_key m t a) ≡ Less) d
    (chain (entry_key m t) (entry_count m t) (λ a h. rises_at (entry_key m t) 0 (entry_count m t - 1) w.1 a (omega arith) (omega arith)) i (j - i - 1) (omega arith))

-- and rising keys of whole entries are well formed
rising_rises : (k : ℕ → List ℕ) (i n : ℕ) → ((j : ℕ) → i ≤ j → j < i + n → order_of (k j) (k (suc j)) ≡ Less) → rises_from k i n ≡ true
unfolding rises_from
rising_rises k i zero h = refl
rising_rises k i (suc n) h =
    rw (h i (omega arith) (omega arith)) (rising_rises k (suc i) n (λ j le lt. h j (omega arith) (omega arith)))

pub rising_formed : (m : ℕ) (t : List ℕ) → length t % (m + 1) ≡ 0 → Rising (entry_key m t) (entry_count m t) → well_formed m t ≡ true
unfolding Rising
rising_formed m t e up =
    form_from m t ∙ rw (eq-eqb (length t % (m + 1)) 0 e)
    (rising_rises (entry_key m t) 0 (entry_count m t - 1) (λ j le lt. up j (suc j) (omega arith) (omega arith)))

-- entries of which each was found less than the next, and one that was not
pub steps_formed : (m : ℕ) (t : List ℕ) → length t % (m + 1) ≡ 0
    → ((i : ℕ) → i < entry_count m t → 1 ≤ i → order_of (entry_key m t (i - 1)) (entry_key m t i) ≡ Less) → well_formed m t ≡ true
steps_formed m t e up =
    form_from m t ∙ rw (eq-eqb (length t % (m + 1)) 0 e)
    (rising_rises (entry_key m t) 0 (entry_count m t - 1) (λ j le lt. let s : suc j - 1 ≡ j = omega arith in subst (λ (a : ℕ). order_of (entry_key m t a) (entry_key m t (suc j)) ≡ Less) s (up (suc j) (omega arith) (omega arith))))

pub form_fails : (m : ℕ) (t : List ℕ) (i : ℕ) → 1 ≤ i → i < entry_count m t
    → is_lt (order_of (entry_key m t (i - 1)) (entry_key m t i)) ≡ false → well_formed m t ≡ false
unfolding Rising
form_fails m t i some lt e =
    bool_cases (well_formed m t)
    (λ w. absurd (true≢false (ap is_lt (sym (formed_rising m t w (i - 1) i (omega arith) lt)) ∙ e)))
    (λ w. w)

-- what a lookup gives where the key stands
look_hit : (k : ℕ → List ℕ) (v : ℕ → ℕ) (s : List ℕ) (d i n j : ℕ) → i ≤ j → j < i + n → order_of (k j) s ≡ Equal
    → ((a : ℕ) → i ≤ a → a < j → is_eq (order_of (k a) s) ≡ false) → look_from k v s d i n ≡ v j
unfolding look_from
look_hit k v s d i zero j le lt h b = absurd (omega arith)
look_hit k v s d i (suc n) j le lt h b =
    ⊎_elim (λ (e : i ≡ j). subst (λ (a : ℕ). look_from k v s d i (suc n) ≡ v a) e (rw (ap (λ (a : ℕ). order_of (k a) s) e ∙ h)))
    (λ (g : i < j). rw (b i (omega arith) g) (look_hit k v s d (suc i) n j g (omega arith) h (λ a p q. b a (omega arith) q)))
    (eq-or-lt_of_le le)

-- n keys that rise: what a lookup reads where a key stands
module _ (k : ℕ → List ℕ) (v : ℕ → ℕ) (s : List ℕ) (n : ℕ) (up : Rising k n) where
  pub look_found : (d j : ℕ) → j < n → k j ≡ s → look_from k v s d 0 n ≡ v j
  unfolding Rising
  look_found d j lt e =
      look_hit k v s d 0 n j (omega arith) (omega arith) (subst (λ (x : List ℕ). order_of (k j) x ≡ Equal) e (eq_same (k j)))
      (λ a p q. less_not_same (k a) s (subst (λ (z : List ℕ). order_of (k a) z ≡ Less) e (up a j q lt)))

-- halving: of n keys every one before low is less than s, and s is less than every one behind the `span` keys from there on
pub record Halved (k : ℕ → List ℕ) (n : ℕ) (s : List ℕ) (low span : ℕ) : Type 0 where
  pub most : low + span ≤ n
  pub before : (i : ℕ) → i < low → order_of (k i) s ≡ Less
  pub after : (i : ℕ) → low + span ≤ i → i < n → order_of s (k i) ≡ Less

module _ {k : ℕ → List ℕ} {n : ℕ} {s : List ℕ} {low span : ℕ} (up : Rising k n) (h : Halved k n s low span) (half : ℕ) (lt : half < span) where
  pub half_less : order_of (k (low + half)) s ≡ Less → Halved k n s (low + half + 1) (span - (half + 1))
  unfolding Rising
  half_less e =
      record {
        most = omega (arith, h.most);
        before = λ i g.
            ⊎_elim (λ (q : i ≡ low + half). subst (λ (a : ℕ). order_of (k a) s ≡ Less) (sym q) e)
            (λ (q : i < low + half). less_trans (k i) (k (low + half)) s (up i (low + half) q (omega (arith, h.most))) e) (eq-or-lt_of_le (omega arith));
        after = λ i g. h.after i (omega arith);
      }

  pub half_more : order_of (k (low + half)) s ≡ Greater → Halved k n s low half
  unfolding Rising
  half_more e =
      record {
        most = omega (arith, h.most);
        before = h.before;
        after = λ i g l.
            ⊎_elim (λ (q : low + half ≡ i). subst (λ (a : ℕ). order_of s (k a) ≡ Less) q (more_flip (k (low + half)) s e))
            (λ (q : low + half < i). less_trans s (k (low + half)) (k i) (more_flip (k (low + half)) s e) (up (low + half) i q l)) (eq-or-lt_of_le g);
      }

-- a lookup finds the key, or gives what it gives where there is none
pub look_cases {ℓ} : {A : Type ℓ} (k : ℕ → List ℕ) (v : ℕ → ℕ) (s : List ℕ) (d i n : ℕ) → ((j : ℕ) → i ≤ j → j < i + n → k j ≡ s → A)
    → (look_from k v s d i n ≡ d → A) → A
unfolding look_from
look_cases k v s d i zero f g = g refl
look_cases {A = A} k v s d i (suc n) f g =
    let miss : is_eq (order_of (k i) s) ≡ false → A =
    λ e. look_cases k v s d (suc i) n (λ j h l q. f j (omega arith) (omega arith) q) (λ q. g (rw e q)) in
    order_split (order_of (k i) s)
    (λ e. miss (ap is_eq e))
    (λ e. f i (omega arith) (omega arith) (same_eq (k i) s e))
    (λ e. miss (ap is_eq e))

-- nothing is left to halve: the key is not there
pub look_halved : {k : ℕ → List ℕ} {n : ℕ} {s : List ℕ} {low span : ℕ} (v : ℕ → ℕ) (d : ℕ) → Halved k n s low span → span ≤ 0
    → look_from k v s d 0 n ≡ d
look_halved {k} {n} {s} {low} v d h z =
    look_cases k v s d 0 n
    (λ j g l e. absurd (less_cases j low
    (λ q. less_irrefl s (subst (λ x. order_of x s ≡ Less) e (h.before j q)))
    (λ q. less_irrefl s (subst (λ x. order_of s x ≡ Less) e (h.after j (omega arith) (omega arith))))))
    (λ e. e)
