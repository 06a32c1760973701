-- The entries in the order found, sorted, are the table.
use Prim.Native.Nat.{ℕ, ◌+◌, ◌*◌, ◌/◌, ◌≤◌, ◌<◌}
use mathlib.Core.Path.{◌≡◌, sym, ap, ap₂, subst, ◌∙◌}
use mathlib.Core.List.{List, ◌++◌}
use native.Mathlib.Nat.{mul-div_cancel}
use native.Mathlib.Omega.{arith}
use lib.ListN.{length, take, drop, get_or, length-append, length-drop, take-append-drop}
use lib.Seq.{length-take-le, drop_at}
use Rattle.generic_cube.specs.Sizes.{stickers}
use Rattle.table.specs.Order.{order_of}
use Rattle.table.specs.Entries.{entry_key, entry_number, Rising}
use Rattle.table.specs.Inner.{entry_at, Distinct}
use Rattle.table.specs.Table.{entry_count}
use Rattle.table.proofs.TableLaws.{fits}
use Rattle.table.proofs.EntriesLaws.{entry_key_lem, entry_number_lem, entry_front}
use Rattle.search_theory.specs.Levels.{Least}
use Rattle.entry_sort.specs.InnerSort.{Twin, Sortable, Arranged}
use Rattle.table.proofs.EntryListLaws.{room_bytes}
use Rattle.search_theory.specs.CubeSearch.{moved_by}
use Rattle.table_theory.specs.Exact.{Start, Exactly}
use Rattle.table_level.specs.Inner.{Stayed}
use Rattle.table_climb.specs.Inner.{Stood}

-- the used part of a slice: it has those entries
module _ (m count : ℕ) (t : List ℕ) (room : count ≤ entry_count m t) where
  used_fit : count * (m + 1) ≤ length t
  used_fit = room_bytes m count t room

  pub used_long : length (take (count * (m + 1)) t) ≡ count * (m + 1)
  used_long = length-take-le (count * (m + 1)) t used_fit

  pub used_entries : entry_count m (take (count * (m + 1)) t) ≡ count
  used_entries = ap (λ (k : ℕ). k / (m + 1)) used_long ∙ mul-div_cancel count (omega arith)

  used_entry : (i : ℕ) → i < count → entry_at m (take (count * (m + 1)) t) i ≡ entry_at m t i
  used_entry i h =
      sym (entry_front m i (take (count * (m + 1)) t) (drop (count * (m + 1)) t) (fits m i (take (count * (m + 1)) t) (omega (arith, used_entries))))
      ∙ ap (λ (l : List ℕ). entry_at m l i) (take-append-drop (count * (m + 1)) t)

  used_key : (i : ℕ) → i < count → entry_key m (take (count * (m + 1)) t) i ≡ entry_key m t i
  used_key i h = entry_key_lem m (take (count * (m + 1)) t) i ∙ ap (take m) (used_entry i h) ∙ sym (entry_key_lem m t i)

  pub used_sortable : m ≤ 294 → Distinct (entry_key m t) count → Sortable m (take (count * (m + 1)) t)
  used_sortable short f =
      record {
        short = short;
        distinct = λ i j lt h e.
            let g : j < count = omega (arith, used_entries) in
            f i j lt g (sym (used_key i (omega arith)) ∙ e ∙ used_key j g);
      }

-- sorted, they meet the rule
module _ {n : ℕ} {starts moves : List ℕ} {depth : ℕ} {t t₁ : List ℕ} (ys : List ℕ) {count : ℕ} (s : Stood n starts moves depth t₁ count)
    (k : Stayed (stickers n) t 0 t₁ count) (p : Arranged (stickers n) (take (count * (stickers n + 1)) t₁) ys) where
  abbrev m : ℕ
  m = stickers n

  abbrev t' : List ℕ
  t' = ys ++ drop (count * (m + 1)) t₁

  sorted_long : length ys ≡ count * (m + 1)
  sorted_long = p.long ∙ used_long m count t₁ s.room

  used_all : entry_count m (take (count * (m + 1)) t₁) ≡ count
  used_all = used_entries m count t₁ s.room

  front_entry : (i : ℕ) → i < count → entry_at m t' i ≡ entry_at m ys i
  front_entry i h = entry_front m i ys (drop (count * (m + 1)) t₁) (fits m i ys (subst (λ (j : ℕ). i < j / (m + 1)) (sym p.long) (omega (arith, used_all))))

  -- an entry of the one is an entry of the other
  was_found : (i : ℕ) → i < count → Twin m t' t₁ count i
  was_found i h =
      let w = p.back i (omega (arith, used_all)) in
      let g : w.at < count = omega (arith, w.inside, used_all) in
      record { at = w.at; inside = g; is = front_entry i h ∙ w.is ∙ used_entry m count t₁ s.room w.at g }

  is_sorted : (i : ℕ) → i < count → Twin m t₁ t' count i
  is_sorted i h =
      let w = p.forth i (omega (arith, used_all)) in
      let g : w.at < count = omega (arith, w.inside, used_all) in
      record { at = w.at; inside = g; is = sym (used_entry m count t₁ s.room i h) ∙ w.is ∙ sym (front_entry w.at g) }

  twin_key : {a b : List ℕ} {i : ℕ} (w : Twin m a b count i) → entry_key m a i ≡ entry_key m b w.at
  twin_key {a} {b} {i} w = entry_key_lem m a i ∙ ap (take m) w.is ∙ sym (entry_key_lem m b w.at)

  twin_number : {a b : List ℕ} {i : ℕ} (w : Twin m a b count i) → entry_number m a i ≡ entry_number m b w.at
  twin_number {a} {b} {i} w = entry_number_lem m a i ∙ ap (λ (x : List ℕ). get_or x m 0) w.is ∙ sym (entry_number_lem m b w.at)

  front_key : (i : ℕ) → i < count → entry_key m t' i ≡ entry_key m ys i
  front_key i h = entry_key_lem m t' i ∙ ap (take m) (front_entry i h) ∙ sym (entry_key_lem m ys i)

  sorted_rises : Rising (entry_key m t') count
  unfolding Rising
  sorted_rises i j lt h = ap₂ order_of (front_key i (omega arith)) (front_key j h) ∙ p.rising i j lt (omega (arith, used_all))

  pub finished : Exactly n starts moves depth t (ys ++ drop (count * (stickers n + 1)) t₁) count
  finished =
      record {
        room = subst (λ (j : ℕ). count ≤ j / (m + 1)) k.long s.room;
        rising = sorted_rises;
        exact =
            record {
              shallow = λ i h. let w = was_found i h in subst (λ (j : ℕ). j ≤ depth) (sym (twin_number w)) (s.exact.shallow w.at w.inside);
              right = λ i h.
                  let w = was_found i h in
                  subst (λ (j : ℕ). Least (moved_by n) moves (Start n starts) j (entry_key m t' i)) (sym (twin_number w))
                  (subst (Least (moved_by n) moves (Start n starts) (entry_number m t₁ w.at)) (sym (twin_key w)) (s.exact.right w.at w.inside));
              whole = λ j x h r.
                  let q = s.exact.whole j x h r in
                  let w = is_sorted q.0 q.1 in
                  (w.at, w.inside, sym (twin_key w) ∙ q.2);
            };
        past = drop_at ys (drop (count * (m + 1)) t₁) (count * (m + 1)) sorted_long ∙ k.past;
        long =
            length-append ys (drop (count * (m + 1)) t₁)
            ∙ omega (arith, sorted_long, length-drop (count * (m + 1)) t₁, used_fit m count t₁ s.room, k.long);
      }
