-- The builder's result meets the rule of a table, the rule leaves one buffer, and 6 is given exactly where no buffer can meet it.
use Prim.Native.Nat.{ℕ, zero, suc, ◌+◌, ◌*◌, ◌/◌, ◌≤◌, ◌<◌}
use mathlib.Core.Path.{◌≡◌, refl, sym, ap, ap₂, subst, ◌∙◌}
use mathlib.Core.List.Memᴰ
use mathlib.Core.List.{List, [], ◌∷◌, ◌++◌, Memᴰ}
use mathlib.Core.Logic.{⊎_elim}
use native.Mathlib.Nat.{suc-mul, le-div_iff_mul-le}
use native.Mathlib.Omega.{arith}
use lib.ListN.{length, take, drop, length-drop, length-append}
use lib.Seq.{length-take-le, drop_at, ext_get_or}
use Rattle.generic_cube.specs.Sizes.{stickers}
use Rattle.geometric_moves.proofs.MovedLaws.{length_moved}
use Rattle.table.specs.Order.{order_of}
use Rattle.table.proofs.OrderLaws.{order_split}
use Rattle.table.specs.Entries.{entry_key, entry_number, Rising}
use Rattle.table.specs.Table.{entry_count, first_entries, Entry, numbered, bytes}
use Rattle.search_theory.specs.Levels.{Exact}
use Rattle.ground.specs.Lists.{over}
use Rattle.table_theory.specs.Built.{add, add_all, spread, frontier, built, cubes, starts_of, table_of}
use Rattle.table.proofs.EntryListLaws.{no_entry, key_in, number_in, length_entries, entries_key, entries_number, Long, length-bytes, bytes_of_entries, entries_of-bytes, room_bytes}
use Rattle.table_theory.proofs.AddLaws.{sorted_at}
use Rattle.search_theory.specs.CubeSearch.{moved_by}
use Rattle.table_theory.specs.Exact.{Start, Exactly, Outnumber}
use Rattle.table_theory.proofs.CountLaws.{Counts, built_counts, built_sorted, counts_exact, spread_led}
use Rattle.table_theory.proofs.RisingLaws.{no_more, exact_cast, exact_count, exact_key, exact_number}

-- keys of m bytes
long_add : {m : ℕ} (x : Entry) (table : List Entry) → length x.key ≡ m → Long m table → Long m (add x table)
unfolding Long add
long_add x [] e l = (e, tt)
long_add x (y ∷ ys) e l =
    order_split (order_of y.key x.key)
    (λ o. rw o (l.0, long_add x ys e l.1))
    (λ o. rw o l)
    (λ o. rw o (e, l))

long_all : {m : ℕ} (d : ℕ) (ss : List (List ℕ)) (table : List Entry) → ((s : List ℕ) → Memᴰ s ss → length s ≡ m) → Long m table → Long m (add_all d ss table)
unfolding add_all
long_all d [] table h l = l
long_all d (s ∷ ss) table h l =
    long_all d ss (add (numbered s d) table) (λ r m. h r (Memᴰ.tail m)) (long_add (numbered s d) table (h s (Memᴰ.head refl)) l)

cubes_long : (m k : ℕ) (l : List ℕ) → k * m ≤ length l → (s : List ℕ) → Memᴰ s (cubes m k l) → length s ≡ m
unfolding cubes
cubes_long m zero l h s i = absurd (Memᴰ.not-nil i)
cubes_long m (suc k) l h s i =
    ⊎_elim (λ (e : s ≡ take m l). ap length e ∙ length-take-le m l (omega (arith, suc-mul k m)))
    (λ r. cubes_long m k (drop m l) (omega (arith, suc-mul k m, length-drop m l)) s r) (Memᴰ.cases_cons i)

pub starts_long : (n : ℕ) (starts : List ℕ) → 0 < stickers n → (s : List ℕ) → Start n starts s → length s ≡ stickers n
starts_long n starts h =
    cubes_long (stickers n) (length starts / stickers n) starts
    ((le-div_iff_mul-le {k = stickers n} {x = length starts / stickers n} h).0 (omega arith))

pub built_long : (n : ℕ) (starts : List (List ℕ)) (moves : List ℕ) (d : ℕ) → ((s : List ℕ) → Memᴰ s starts → length s ≡ stickers n)
    → Long (stickers n) (built n starts moves d)
unfolding built Long
built_long n starts moves zero h = long_all 0 starts [] h tt
built_long n starts moves (suc d) h =
    long_all (suc d) (spread n moves (frontier d (built n starts moves d))) (built n starts moves d)
    (λ s m. ap length (spread_led n moves (frontier d (built n starts moves d)) m).leads ∙ length_moved n _ _)
    (built_long n starts moves d h)

-- entries and their bytes, with anything behind them
module _ (m : ℕ) (table : List Entry) (r : List ℕ) (long : Long m table) where
  pub bytes_key : (i : ℕ) → i < length table → entry_key m (bytes table ++ r) i ≡ key_in table i
  bytes_key i h =
      sym (entries_key m (length table) (bytes table ++ r) i h) ∙ ap (λ (l : List Entry). key_in l i) (entries_of-bytes m table r long)

  pub bytes_number : (i : ℕ) → i < length table → entry_number m (bytes table ++ r) i ≡ number_in table i
  bytes_number i h =
      sym (entries_number m (length table) (bytes table ++ r) i h) ∙ ap (λ (l : List Entry). number_in l i) (entries_of-bytes m table r long)

module _ (n : ℕ) (starts moves : List ℕ) (depth : ℕ) (some : 0 < stickers n) where
  abbrev table : List Entry
  table = table_of n starts moves depth

  pub table_long : Long (stickers n) (table_of n starts moves depth)
  table_long = built_long n (starts_of n starts) moves depth (starts_long n starts some)

  table_counts : Counts n (starts_of n starts) moves depth (table_of n starts moves depth)
  table_counts = built_counts n (starts_of n starts) moves depth

  -- its bytes rise and are exact, whatever lies behind them
  module _ (r : List ℕ) where
    pub table_rising : Rising (entry_key (stickers n) (bytes (table_of n starts moves depth) ++ r)) (length (table_of n starts moves depth))
    unfolding Rising
    table_rising i j lt h =
        ap₂ order_of (bytes_key (stickers n) table r table_long i (omega arith)) (bytes_key (stickers n) table r table_long j h)
        ∙ sorted_at table i j (built_sorted n (starts_of n starts) moves depth) lt h

    pub table_exact : Exact (moved_by n) moves (Start n starts) depth (entry_key (stickers n) (bytes (table_of n starts moves depth) ++ r))
        (entry_number (stickers n) (bytes (table_of n starts moves depth) ++ r)) (length (table_of n starts moves depth))
    table_exact =
        exact_cast (moved_by n) moves (Start n starts)
        (λ i h. sym (bytes_key (stickers n) table r table_long i h)) (λ i h. sym (bytes_number (stickers n) table r table_long i h))
        (counts_exact n (starts_of n starts) moves table_counts)

  -- a buffer with room for it, with its bytes in front, meets the rule
  pub over_exact : (t : List ℕ) → length (table_of n starts moves depth) ≤ entry_count (stickers n) t
      → Exactly n starts moves depth t (over (bytes (table_of n starts moves depth)) t) (length (table_of n starts moves depth))
  over_exact t h =
      let b = length-bytes (stickers n) table table_long in
      record {
        room = h;
        rising = table_rising (drop (length (bytes table)) t);
        exact = table_exact (drop (length (bytes table)) t);
        past =
            drop_at (bytes table) (drop (length (bytes table)) t) (length table * (stickers n + 1)) b ∙ ap (λ (k : ℕ). drop k t) b;
        long =
            length-append (bytes table) (drop (length (bytes table)) t)
            ∙ omega (arith, b, length-drop (length (bytes table)) t, room_bytes (stickers n) (length table) t h);
      }

  -- states that outnumber the entries that fit
  pub outnumbers : {room : ℕ} → room < length (table_of n starts moves depth) → Outnumber n starts moves depth room
  unfolding Rising
  outnumbers {room} h =
      let e = counts_exact n (starts_of n starts) moves table_counts in
      record {
        state = key_in table;
        rising = λ i j lt g. sorted_at table i j (built_sorted n (starts_of n starts) moves depth) lt (omega arith);
        count = number_in table;
        within = λ i g. e.shallow i (omega arith);
        reached = λ i g. (e.right i (omega arith)).reached;
      }

-- the rule leaves one buffer
module _ {n : ℕ} {starts moves : List ℕ} {depth : ℕ} {t t₁ t₂ : List ℕ} {c₁ c₂ : ℕ}
    (a : Exactly n starts moves depth t t₁ c₁) (b : Exactly n starts moves depth t t₂ c₂) where
  pub one_count : c₁ ≡ c₂
  one_count = exact_count (moved_by n) moves (Start n starts) a.rising b.rising a.exact b.exact

  one_key : (i : ℕ) → i < c₁ → entry_key (stickers n) t₁ i ≡ entry_key (stickers n) t₂ i
  one_key i h = exact_key (moved_by n) moves (Start n starts) a.rising b.rising a.exact b.exact i h

  one_number : (i : ℕ) → i < c₁ → entry_number (stickers n) t₁ i ≡ entry_number (stickers n) t₂ i
  one_number i h = exact_number (moved_by n) moves (Start n starts) a.rising b.rising a.exact b.exact i h

  one_held : first_entries (stickers n) c₁ t₁ ≡ first_entries (stickers n) c₁ t₂
  one_held =
      ext_get_or no_entry (first_entries (stickers n) c₁ t₁) (first_entries (stickers n) c₁ t₂) (length_entries (stickers n) c₁ t₁ ∙ sym (length_entries (stickers n) c₁ t₂))
      (λ i g.
      let h : i < c₁ = omega (arith, length_entries (stickers n) c₁ t₁) in
      ap₂ numbered (entries_key (stickers n) c₁ t₁ i h ∙ one_key i h ∙ sym (entries_key (stickers n) c₁ t₂ i h))
      (entries_number (stickers n) c₁ t₁ i h ∙ one_number i h ∙ sym (entries_number (stickers n) c₁ t₂ i h)))

  pub one_buffer : t₁ ≡ t₂
  one_buffer =
      let room = room_bytes (stickers n) c₁ t a.room in
      sym (bytes_of_entries (stickers n) c₁ t₁ (omega (arith, a.long)))
      ∙ ap₂ (λ (l : List Entry) (r : List ℕ). bytes l ++ r) one_held
      (a.past ∙ sym (subst (λ (c : ℕ). drop (c * (stickers n + 1)) t₂ ≡ drop (c * (stickers n + 1)) t) (sym one_count) b.past))
      ∙ bytes_of_entries (stickers n) c₁ t₂ (omega (arith, b.long))

-- and none where the states outnumber the entries that fit
pub none_fits : {n : ℕ} {starts moves : List ℕ} {depth : ℕ} {t t' : List ℕ} {count : ℕ} → Exactly n starts moves depth t t' count
    → Outnumber n starts moves depth (entry_count (stickers n) t) → ⊥
none_fits {n} {t = t} {t'} {count} a o =
    let m = no_more o.rising a.rising (λ i h. a.exact.whole (o.count i) (o.state i) (o.within i h) (o.reached i h)) in
    omega (arith, m, a.room)
