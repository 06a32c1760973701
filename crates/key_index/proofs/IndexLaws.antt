-- Laws of the index.
use Prim.Native.Nat.{ℕ, ◌+◌, ◌-◌, ◌%◌, ◌≤◌, ◌<◌}
use mathlib.Core.Path.{◌≡◌, sym, ap, subst, ◌∙◌}
use mathlib.Core.Bool.{Bool, false, true≢false}
use mathlib.Core.List.{List}
use native.Mathlib.Omega.{arith}
use lib.ListN.{length, get_or, set, length-set}
use lib.Seq.{get_or-set_same, get_or-set_other}
use borrow.Author.Count.{below_more}
use Rattle.ground.proofs.ChoiceLaws.{order_cases}
use Rattle.table.specs.Entries.{entry_key, Present}
use Rattle.std.specs.Prelude.{Some, None, IsTrue, ◌↔◌}
use Rattle.key_index.specs.declared.Found.{Found}
use Rattle.key_index.specs.declared.Found.TheVariants.{Here, Absent, Lost, Outside}
use Rattle.key_index.specs.declared.Classes.{Classes}
use Rattle.key_index.specs.InnerIndex.{classes, hash_of, class_of, run_start, OfClasses, Filed, Indexed, Free}
use Rattle.key_index.specs.Inner.{Probed, Met, Passed, Sought}
use Rattle.key_index.proofs.WordLaws.{run_fits}

-- what is told of the class of a key that was hashed is told of the key
pub class_told : (k : Classes) (s : List ℕ) {h : ℕ} {b : Bool} → h ≡ hash_of s → IsTrue b ↔ ((k.low ≤ h % classes) × (h % classes < k.high)) → IsTrue b ↔ OfClasses k s
unfolding class_of
class_told k s {b = b} e f = subst (λ (a : ℕ). IsTrue b ↔ ((k.low ≤ a % classes) × (a % classes < k.high))) e f

pub class_other : (k : Classes) (s : List ℕ) {h : ℕ} {b : Bool} → h ≡ hash_of s → IsTrue b ↔ ((k.low ≤ h % classes) × (h % classes < k.high)) → b ≡ false → OfClasses k s → ⊥
class_other k s e f g w = true≢false (sym ((class_told k s e f).1 w) ∙ g)

-- a class is one of so many
pub class_most : (s : List ℕ) → class_of s < classes
unfolding class_of
class_most s = omega arith

-- the slots from `at` up to p are taken; and what holds of them goes on by a slot
abbrev pub Full : List ℕ → ℕ → ℕ → Type 0
Full index at p = (j : ℕ) → at ≤ j → j < p → get_or index j 0 ≡ 0 → ⊥

-- the run may be named otherwise
pub free_at : {index : List ℕ} {a b p : ℕ} → a ≡ b → Free index a p → Free index b p
free_at e f = rw e at f

pub probed_at : (m : ℕ) (t s index : List ℕ) (r : Found) {a b : ℕ} → a ≡ b → Probed m t s index a r → Probed m t s index b r
probed_at m t s index r e p = rw e at p

module _ {m count : ℕ} {t index : List ℕ} {k : Classes} (x : Indexed m count t index k) where
  -- an empty slot of a run is a slot of the index
  pub free_inside : (s : List ℕ) {p : ℕ} → Free index (run_start (length index) s) p → p < length index
  free_inside s f = omega (arith, f.near, run_fits (length index) s x.some)

  -- a key that a slot holds is an entry's
  met_present : {s : List ℕ} {at : ℕ} → Met m t s index at → Present (entry_key m t) count s
  met_present w = (get_or index w.slot 0 - 1, omega (arith, x.within w.slot, w.some), w.is)

  -- a key of the classes whose run has an empty slot before it is met is no entry's
  absent : {s : List ℕ} {p : ℕ} → OfClasses k s → Free index (run_start (length index) s) p → Passed m t s index (run_start (length index) s) p
      → Present (entry_key m t) count s → ⊥
  absent {s} {p} w f g (i, lt, e) =
      let y : Filed index s i =
      subst (λ (a : List ℕ). Filed index a i) e (x.kept i lt (subst (OfClasses k) (sym e) w)) in
      order_cases y.slot p
      (λ b.
      let v : get_or index y.slot 0 - 1 ≡ i = omega (arith, y.is) in
      g y.slot y.from b (subst (λ (a : ℕ). entry_key m t a ≡ s) (sym v) e))
      (λ b. omega (arith, y.is, ap (λ (a : ℕ). get_or index a 0) b, f.empty))
      (λ b. y.taken p f.from b f.empty)

  -- an entry of other classes needs no slot
  pub index_skip : (OfClasses k (entry_key m t count) → ⊥) → Indexed m (count + 1) t index k
  index_skip n =
      record {
        some = x.some;
        few = x.few;
        within = λ j. omega (arith, x.within j);
        kept = below_more (λ (i : ℕ). OfClasses k (entry_key m t i) → Filed index (entry_key m t i) i) count x.kept (λ w. absurd (n w));
      }

-- one entry more, in the first empty slot of its run
module _ {m count : ℕ} {t index : List ℕ} {k : Classes} (t' s : List ℕ) (p : ℕ) (x : Indexed m count t index k)
    (old : (i : ℕ) → i < count → entry_key m t' i ≡ entry_key m t i) (new : entry_key m t' count ≡ s) (f : Free index (run_start (length index) s) p)
    (inside : p < length index) where
  -- a slot then is as it was, or holds the entry
  put_at {ℓ} : {A : Type ℓ} (j : ℕ) → (get_or (set index p (count + 1)) j 0 ≡ get_or index j 0 → A)
      → (get_or (set index p (count + 1)) j 0 ≡ count + 1 → A) → A
  put_at j g h =
      order_cases j p
      (λ b. g (get_or-set_other index p j (count + 1) 0 (λ e. omega arith)))
      (λ b. h (rw b (get_or-set_same index p (count + 1) 0 inside)))
      (λ b. g (get_or-set_other index p j (count + 1) 0 (λ e. omega arith)))

  put_taken : (j : ℕ) → (get_or index j 0 ≡ 0 → ⊥) → get_or (set index p (count + 1)) j 0 ≡ 0 → ⊥
  put_taken j n e = put_at j (λ same. n (sym same ∙ e)) (λ v. omega arith)

  put_old : (i : ℕ) → i < count → OfClasses k (entry_key m t' i) → Filed (set index p (count + 1)) (entry_key m t' i) i
  put_old i lt w =
      let y : Filed index (entry_key m t' i) i = rw (old i lt) (x.kept i lt (rw (old i lt) at w)) in
      record {
        slot = y.slot;
        from = rw length-set y.from;
        near = rw length-set y.near;
        taken = λ j a b. put_taken j (y.taken j (rw length-set at a) b);
        is = get_or-set_other index p y.slot (count + 1) 0 (λ q. omega (arith, y.is, f.empty, ap (λ (a : ℕ). get_or index a 0) q)) ∙ y.is;
      }

  put_new : Filed (set index p (count + 1)) s count
  put_new =
      record {
        slot = p;
        from = rw length-set f.from;
        near = rw length-set f.near;
        taken = λ j a b. put_taken j (f.taken j (rw length-set at a) b);
        is = get_or-set_same index p (count + 1) 0 inside;
      }

  pub index_more : Indexed m (count + 1) t' (set index p (count + 1)) k
  index_more =
      record {
        some = rw length-set x.some;
        few = rw length-set x.few;
        within = λ j. put_at j (λ same. omega (arith, x.within j)) (λ v. omega arith);
        kept = below_more (λ (i : ℕ). OfClasses k (entry_key m t' i) → Filed (set index p (count + 1)) (entry_key m t' i) i) count put_old
            (λ w. rw new put_new);
      }

-- what comes of probing the run of a key
pub sought_probed : {m count : ℕ} {t index : List ℕ} {k : Classes} (s : List ℕ) (r : Found) → k.plain ≡ false → Indexed m count t index k → OfClasses k s
    → Probed m t s index (run_start (length index) s) r → Sought m count t s index k r
sought_probed s Here e x w p = met_present x p
sought_probed s (Absent None) e x w p = absurd p
sought_probed s (Absent (Some q)) e x w p = (absent x w p.0 p.1, e, p.0)
sought_probed s Lost e x w p = e
sought_probed s Outside e x w p = absurd p
