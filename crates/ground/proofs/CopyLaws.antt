-- A slice that is copied part by part.
use Prim.Native.Nat.{ℕ, ◌+◌, ◌-◌, ◌≤◌, ◌<◌}
use mathlib.Core.Path.{◌≡◌, refl, sym, ap, ap₂, subst, ◌∙◌}
use mathlib.Core.List.{List, [], ◌∷◌, ◌++◌, append_assoc}
use native.Mathlib.Numerals.{add-one}
use native.Mathlib.Omega.{arith}
use lib.ListN.{length, take, drop, get_or, set, length-append, length-drop, take-append-drop}
use lib.Seq.{length-take-le, take_all, drop-cons, set_split, take-take, drop-drop, take-add, take_at, drop_at}
use Rattle.ground.specs.Inner.{Copying, Doubling}
use Rattle.ground.proofs.ListLaws.{part_front}

pub copy_none : {s l : List ℕ} → length l ≡ length s → Copying s l 0
copy_none e = record { long = e; done = refl }

module _ {s l : List ℕ} {j : ℕ} (c : Copying s l j) where
  pub copy_less : {i : ℕ} → i ≤ j → Copying s l i
  copy_less {i} h = record { long = c.long; done = sym (take-take i j l h) ∙ ap (take i) c.done ∙ take-take i j s h }

  pub copy_all : length l ≤ j → l ≡ s
  copy_all h = sym (take_all j l h) ∙ c.done ∙ take_all j s (let e = c.long in omega arith)

  -- the elements up to `end` follow
  pub copy_part : {part : List ℕ} {end : ℕ} → j ≤ end → end ≤ length l → part ≡ take (end - j) (drop j s)
      → Copying s (take j l ++ (part ++ drop (end - j) (drop j l))) end
  copy_part {part} {end} some fits e =
      let n = end - j in
      let tail = drop n (drop j l) in
      let sum : j + n ≡ end = omega arith in
      let head : length (take j l) ≡ j = length-take-le j l (omega arith) in
      let mid : length part ≡ n = ap length e ∙ length-take-le n (drop j s) (omega (arith, length-drop j s, c.long)) in
      let front : length (take j l ++ part) ≡ end = omega (arith, length-append (take j l) part) in
      record {
        long = omega (arith, c.long, length-append (take j l) (part ++ tail), length-append part tail, length-drop n (drop j l), length-drop j l);
        done = ap (take end) (sym (append_assoc (take j l) part tail)) ∙ take_at (take j l ++ part) tail end front ∙ rw (c.done, e, ← take-add j n s, sum);
      }

-- a slice of two halves: nothing of the second is copied yet, the elements up to `end` follow, all of them are
module _ {s : ℕ} {l : List ℕ} where
  pub double_none : length l ≡ s + s → Doubling s l l 0
  double_none e =
      record { long = e; front = refl; copied = copy_none (omega (arith, length-drop s l, length-take-le s l (omega arith))) }

  pub double_part : {old part : List ℕ} {j k m : ℕ} (n : ℕ) → Doubling s old l j → j + n ≤ s → k ≡ n → m ≡ n → part ≡ take k (drop j l)
      → Doubling s old (take (s + j) l ++ (part ++ drop m (drop (s + j) l))) (j + n)
  double_part {old} {part} {j} {k} {m} n d fits ek em e =
      let new = take j (drop s l) ++ (part ++ drop (j + n - j) (drop j (drop s l))) in
      let sum : j + n - j ≡ n = omega arith in
      let head : length (take s l) ≡ s = length-take-le s l (omega (arith, d.long)) in
      let is : take (s + j) l ++ (part ++ drop m (drop (s + j) l)) ≡ take s l ++ new
      = rw (em, sum, take-add s j l, append_assoc (take s l) (take j (drop s l)) (part ++ drop n (drop (s + j) l)), drop-drop j s l) in
      let read : part ≡ take (j + n - j) (drop j (take s l))
      = e ∙ ap (λ i. take i (drop j l)) (ek ∙ sym sum) ∙ part_front l j (j + n - j) s (omega (arith, d.long)) (omega arith) in
      let c = copy_part d.copied (omega arith) (omega (arith, d.long, length-drop s l)) read in
      subst (λ i. Doubling s old i (j + n)) (sym is) (record {
        long = length-append (take s l) new ∙ omega (arith, head, c.long);
        front = take_at (take s l) new s head ∙ d.front;
        copied = rw (take_at (take s l) new s head, drop_at (take s l) new s head) c;
      })

  pub double_one : {old : List ℕ} {j x : ℕ} → Doubling s old l j → j < s → x ≡ get_or l j 0 → Doubling s old (set l (s + j) x) (j + 1)
  double_one {old} {j} {x} d lt e =
      let is : set l (s + j) x ≡ take (s + j) l ++ ((x ∷ []) ++ drop 1 (drop (s + j) l))
      = set_split l (s + j) x (omega (arith, d.long)) ∙ rw (drop-drop 1 (s + j) l, add-one (s + j)) in
      let read : x ∷ [] ≡ take 1 (drop j l) = rw (drop-cons l j 0 (omega (arith, d.long)), e) in
      subst (λ i. Doubling s old i (j + 1)) (sym is) (double_part 1 d (omega arith) refl refl read)

  pub double_less : {old : List ℕ} {i j : ℕ} → Doubling s old l j → i ≤ j → Doubling s old l i
  double_less d h = record { long = d.long; front = d.front; copied = copy_less d.copied h }

  pub double_here : {old : List ℕ} {j : ℕ} → Doubling s old l j → Doubling s l l j
  double_here d = record { long = d.long; front = refl; copied = d.copied }

  pub double_then : {old mid : List ℕ} {j : ℕ} → Doubling s mid l j → take s mid ≡ take s old → Doubling s old l j
  double_then d e = record { long = d.long; front = d.front ∙ e; copied = d.copied }

  pub double_all : {old : List ℕ} {j : ℕ} → Doubling s old l j → s ≤ j → l ≡ take s old ++ take s old
  double_all {old} {j} d h =
      sym (take-append-drop s l)
      ∙ ap₂ ◌++◌ d.front (copy_all d.copied (omega (arith, d.long, length-drop s l)) ∙ d.front)
