-- The table built level by level holds exactly the states reachable within its depth, each with the least count.
use Prim.Native.Nat.{ℕ, zero, suc, ◌≤◌, ◌<◌}
use mathlib.Core.Path.{◌≡◌, refl, sym, ap, subst, ◌∙◌}
use mathlib.Core.Logic.{◌⊎◌, inl, inr, ⊎_elim}
use mathlib.Core.List.Memᴰ
use mathlib.Core.List.{List, [], ◌∷◌, Memᴰ}
use native.Mathlib.Nat.{eq-or-lt_of_le}
use native.Mathlib.Omega.{arith}
use lib.Dec.{eqb}
use lib.ListN.{length, get_or}
use borrow.Author.Tests.{eqb-true, eq-eqb}
use Rattle.ground.proofs.ChoiceLaws.{bool_cases}
use Rattle.ground.proofs.ListLaws.{member_at, member_place}
use Rattle.std.specs.declared.cmp.Ordering.TheVariants.{Less}
use Rattle.table.specs.Order.{order_of}
use Rattle.table.proofs.OrderLaws.{order_split, same_eq, more_flip, less_trans, less_irrefl}
use Rattle.search_theory.specs.Levels.{ReachIn, Least, Exact}
use Rattle.table.specs.Table.{Entry, numbered}
use Rattle.table_theory.specs.Built.{add, add_all, nexts, spread, frontier, built}
use Rattle.table.proofs.EntryListLaws.{no_entry, key_in, number_in}
use Rattle.table_theory.proofs.AddLaws.{Sorted, add_less, add_same, add_old, add_cases, add_sorted, all_sorted}
use Rattle.search_theory.specs.CubeSearch.{moved_by}

-- a cube is the key of an entry
pub record In (s : List ℕ) (table : List Entry) : Type 0 where
  pub entry : Entry
  pub member : Memᴰ entry table
  pub is : entry.key ≡ s

-- a key that is added is there, and what was there stays
in_head : {s : List ℕ} {y : Entry} {ys : List Entry} → y.key ≡ s → In s (y ∷ ys)
in_head {y = y} e = record { entry = y; member = Memᴰ.head refl; is = e }

in_tail : {s : List ℕ} {y : Entry} {ys : List Entry} → In s ys → In s (y ∷ ys)
in_tail i = record { entry = i.entry; member = Memᴰ.tail i.member; is = i.is }

in_new : (x : Entry) (table : List Entry) → In x.key (add x table)
unfolding add
in_new x [] = in_head refl
in_new x (y ∷ ys) =
    order_split (order_of y.key x.key)
    (λ e. rw e (in_tail (in_new x ys)))
    (λ e. rw e (in_head (same_eq y.key x.key e)))
    (λ e. rw e (in_head refl))

in_old : {s : List ℕ} (x : Entry) {table : List Entry} → In s table → In s (add x table)
in_old x {table} i = record { entry = i.entry; member = add_old x table i.member; is = i.is }

in_all_old : {s : List ℕ} (d : ℕ) (ss : List (List ℕ)) {table : List Entry} → In s table → In s (add_all d ss table)
unfolding add_all
in_all_old d [] i = i
in_all_old d (x ∷ ss) i = in_all_old d ss (in_old (numbered x d) i)

in_all_new : {s : List ℕ} (d : ℕ) (ss : List (List ℕ)) (table : List Entry) → Memᴰ s ss → In s (add_all d ss table)
unfolding add_all
in_all_new d [] table m = absurd (Memᴰ.not-nil m)
in_all_new {s} d (x ∷ ss) table m =
    ⊎_elim (λ (e : s ≡ x). in_all_old d ss (subst (λ (k : List ℕ). In k (add (numbered x d) table)) (sym e) (in_new (numbered x d) table)))
    (λ n. in_all_new d ss (add (numbered x d) table) n) (Memᴰ.cases_cons m)

-- an entry is there already, or its key is not
in_cases {ℓ} : {A : Type ℓ} {s : List ℕ} {y : Entry} {ys : List Entry} → In s (y ∷ ys) → (y.key ≡ s → A) → (In s ys → A) → A
in_cases i f g =
    ⊎_elim (λ e. f (ap (λ (x : Entry). x.key) (sym e) ∙ i.is)) (λ m. g (record { entry = i.entry; member = m; is = i.is })) (Memᴰ.cases_cons i.member)

add_fresh : (x : Entry) (table : List Entry) → Sorted table → (add x table ≡ table) ⊎ (In x.key table → ⊥)
unfolding Sorted
add_fresh x [] s = inr (λ i. Memᴰ.not-nil i.member)
add_fresh x (y ∷ ys) s =
    order_split (order_of y.key x.key)
    (λ e. ⊎_elim (λ q. inl (add_less x y ys e ∙ ap (λ (l : List Entry). y ∷ l) q)) (λ f. inr (λ i. in_cases i (λ h. less_irrefl x.key (subst (λ (k : List ℕ). order_of k x.key ≡ Less) h e)) f)) (add_fresh x ys s.1))
    (λ e. inl (add_same x y ys e))
    (λ e.
    let lt = more_flip y.key x.key e in
    inr (λ i. in_cases i (λ h. less_irrefl x.key (subst (λ (k : List ℕ). order_of x.key k ≡ Less) h lt))
    (λ r. less_irrefl x.key (subst (λ (k : List ℕ). order_of x.key k ≡ Less) r.is (less_trans x.key y.key r.entry.key lt (s.0 r.entry r.member))))))

-- what came: one of the cubes, with the number, whose key was not there
pub record New (d : ℕ) (ss : List (List ℕ)) (table : List Entry) (z : Entry) : Type 0 where
  pub number : z.number ≡ d
  pub among : Memᴰ z.key ss
  pub fresh : In z.key table → ⊥

all_cases : (d : ℕ) (ss : List (List ℕ)) (table : List Entry) {z : Entry} → Sorted table → Memᴰ z (add_all d ss table) → Memᴰ z table ⊎ New d ss table z
unfolding add_all
all_cases d [] table s m = inl m
all_cases d (x ∷ ss) table {z} s m =
    ⊎_elim first
    (λ w. inr (record { number = w.number; among = Memᴰ.tail w.among; fresh = λ i. w.fresh (in_old (numbered x d) i) }))
    (all_cases d ss (add (numbered x d) table) (add_sorted (numbered x d) table s) m)
  where
    first : Memᴰ z (add (numbered x d) table) → Memᴰ z table ⊎ New d (x ∷ ss) table z
    first n =
        ⊎_elim (λ q. inl (subst (Memᴰ z) q n))
        (λ f. ⊎_elim
        (λ (e : z ≡ numbered x d).
        let k : z.key ≡ x = ap (λ (y : Entry). y.key) e in
        inr (record { number = ap (λ (y : Entry). y.number) e; among = Memᴰ.head k; fresh = λ i. f (subst (λ (l : List ℕ). In l table) k i) }))
        (λ o. inl o) (add_cases (numbered x d) table n))
        (add_fresh (numbered x d) table s)

-- the frontier: the keys of the entries with that number
frontier_in : (d : ℕ) (table : List Entry) {x : Entry} → Memᴰ x table → x.number ≡ d → Memᴰ x.key (frontier d table)
unfolding frontier
frontier_in d [] m e = absurd (Memᴰ.not-nil m)
frontier_in d (y ∷ ys) {x} m e =
    ⊎_elim
    (λ (q : x ≡ y). rw (eq-eqb y.number d (ap (λ (z : Entry). z.number) (sym q) ∙ e)) (Memᴰ.head (ap (λ (z : Entry). z.key) q)))
    (λ n. bool_cases (eqb y.number d) (λ t. rw t (Memᴰ.tail (frontier_in d ys n e))) (λ t. rw t (frontier_in d ys n e)))
    (Memᴰ.cases_cons m)

record Front (d : ℕ) (table : List Entry) (s : List ℕ) : Type 0 where
  entry : Entry
  member : Memᴰ entry table
  number : entry.number ≡ d
  is : entry.key ≡ s

front-tail : {d : ℕ} {y : Entry} {ys : List Entry} {s : List ℕ} → Front d ys s → Front d (y ∷ ys) s
front-tail f = record { entry = f.entry; member = Memᴰ.tail f.member; number = f.number; is = f.is }

frontier_of : (d : ℕ) (table : List Entry) {s : List ℕ} → Memᴰ s (frontier d table) → Front d table s
unfolding frontier
frontier_of d [] m = absurd (Memᴰ.not-nil m)
frontier_of d (y ∷ ys) {s} m =
    bool_cases (eqb y.number d)
    (λ t. ⊎_elim (λ (e : s ≡ y.key). record { entry = y; member = Memᴰ.head refl; number = eqb-true y.number d t; is = sym e }) (λ n. front-tail (frontier_of d ys n)) (Memᴰ.cases_cons (rw t at m)))
    (λ t. front-tail (frontier_of d ys (rw t at m)))

-- the cubes that the candidates lead to
nexts_in : (n : ℕ) (moves s : List ℕ) {c : ℕ} → Memᴰ c moves → Memᴰ (moved_by n c s) (nexts n moves s)
nexts_in n [] s m = absurd (Memᴰ.not-nil m)
nexts_in n (x ∷ moves) s {c} m =
    ⊎_elim (λ (e : c ≡ x). Memᴰ.head (ap (λ (k : ℕ). moved_by n k s) e)) (λ r. Memᴰ.tail (nexts_in n moves s r)) (Memᴰ.cases_cons m)

spread_in : (n : ℕ) (moves : List ℕ) (ss : List (List ℕ)) {s : List ℕ} {c : ℕ} → Memᴰ s ss → Memᴰ c moves → Memᴰ (moved_by n c s) (spread n moves ss)
unfolding spread
spread_in n moves [] m k = absurd (Memᴰ.not-nil m)
spread_in n moves (x ∷ ss) {s} {c} m k =
    ⊎_elim (λ (e : s ≡ x). Memᴰ.cast (ap (moved_by n c) e) (Memᴰ.append_left (spread n moves ss) (nexts_in n moves x k)))
    (λ r. Memᴰ.append_right (nexts n moves x) (spread_in n moves ss r k)) (Memᴰ.cases_cons m)

pub record Led (n : ℕ) (moves : List ℕ) (ss : List (List ℕ)) (s : List ℕ) : Type 0 where
  pub state : List ℕ
  pub move : ℕ
  pub from : Memᴰ state ss
  pub candidate : Memᴰ move moves
  pub leads : s ≡ moved_by n move state

record LedBy (n : ℕ) (moves x s : List ℕ) : Type 0 where
  move : ℕ
  candidate : Memᴰ move moves
  leads : s ≡ moved_by n move x

nexts_led : (n : ℕ) (moves x : List ℕ) {s : List ℕ} → Memᴰ s (nexts n moves x) → LedBy n moves x s
nexts_led n [] x m = absurd (Memᴰ.not-nil m)
nexts_led n (c ∷ moves) x {s} m =
    ⊎_elim (λ (e : s ≡ moved_by n c x). record { move = c; candidate = Memᴰ.head refl; leads = e })
    (λ r. let w = nexts_led n moves x r in record { move = w.move; candidate = Memᴰ.tail w.candidate; leads = w.leads }) (Memᴰ.cases_cons m)

pub spread_led : (n : ℕ) (moves : List ℕ) (ss : List (List ℕ)) {s : List ℕ} → Memᴰ s (spread n moves ss) → Led n moves ss s
unfolding spread
spread_led n moves [] m = absurd (Memᴰ.not-nil m)
spread_led n moves (x ∷ ss) {s} m =
    ⊎_elim
    (λ k. let w = nexts_led n moves x k in record { state = x; move = w.move; from = Memᴰ.head refl; candidate = w.candidate; leads = w.leads })
    (λ r. let w = spread_led n moves ss r in record { state = w.state; move = w.move; from = Memᴰ.tail w.from; candidate = w.candidate; leads = w.leads })
    (Memᴰ.append_cases (nexts n moves x) m)

module _ (n : ℕ) (starts : List (List ℕ)) (moves : List ℕ) where
  abbrev From : List ℕ → Type 0
  From s = Memᴰ s starts

  -- each entry has the least count, within the depth; each state within the depth is there
  pub record Counts (depth : ℕ) (table : List Entry) : Type 0 where
    pub shallow : (x : Entry) → Memᴰ x table → x.number ≤ depth
    pub right : (x : Entry) → Memᴰ x table → Least (moved_by n) moves From x.number x.key
    pub whole : (j : ℕ) (s : List ℕ) → j ≤ depth → ReachIn (moved_by n) moves From j s → In s table

  pub built_sorted : (d : ℕ) → Sorted (built n starts moves d)
  unfolding built Sorted
  built_sorted zero = all_sorted 0 starts [] tt
  built_sorted (suc d) = all_sorted (suc d) (spread n moves (frontier d (built n starts moves d))) (built n starts moves d) (built_sorted d)

  -- a starting cube has count 0
  first_counts : Counts 0 (add_all 0 starts [])
  unfolding Sorted
  first_counts =
      record {
        shallow = λ x m. omega (arith, (came x m).number);
        right = λ x m.
            subst (λ (k : ℕ). Least (moved_by n) moves From k x.key) (sym (came x m).number)
            (record { reached = (came x m).among; least = λ j h r. absurd (omega arith) });
        whole = λ j s h r.
            let z : j ≡ 0 = omega arith in
            in_all_new 0 starts [] (subst (λ (k : ℕ). ReachIn (moved_by n) moves From k s) z r);
      }
    where
      came : (x : Entry) → Memᴰ x (add_all 0 starts []) → New 0 starts [] x
      came x m = ⊎_elim (λ o. absurd (Memᴰ.not-nil o)) (λ w. w) (all_cases 0 starts [] tt m)

  -- a level on
  module _ (d : ℕ) (table : List Entry) (sorted : Sorted table) (g : Counts d table) where
    abbrev next_cubes : List (List ℕ)
    next_cubes = spread n moves (frontier d table)

    -- what the frontier leads to is reached by one candidate more
    next_reached : {s : List ℕ} → Memᴰ s next_cubes → ReachIn (moved_by n) moves From (suc d) s
    next_reached {s} m =
        let w = spread_led n moves (frontier d table) m in
        let f = frontier_of d table w.from in
        record {
          state = w.state;
          move = w.move;
          from =
              subst (ReachIn (moved_by n) moves From d) f.is
              (subst (λ (k : ℕ). ReachIn (moved_by n) moves From k f.entry.key) f.number (g.right f.entry f.member).reached);
          candidate = w.candidate;
          leads = w.leads;
        }

    abbrev Right : Entry → Type 0
    Right x = (x.number ≤ suc d) × Least (moved_by n) moves From x.number x.key

    right_new : (x : Entry) → New (suc d) next_cubes table x → Right x
    right_new x w = (
      omega (arith, w.number),
      subst (λ (k : ℕ). Least (moved_by n) moves From k x.key) (sym w.number)
          (record { reached = next_reached w.among; least = λ j h r. w.fresh (g.whole j x.key (omega arith) r) }),
    )

    rights : (x : Entry) → Memᴰ x (add_all (suc d) next_cubes table) → Right x
    rights x m =
        ⊎_elim (λ o. (omega (arith, g.shallow x o), g.right x o)) (right_new x) (all_cases (suc d) next_cubes table sorted m)

    -- a state reached by one candidate more: from one with that number, or from one with a lower number, and then it was there
    next_present : (s : List ℕ) → ReachIn (moved_by n) moves From (suc d) s → In s (add_all (suc d) next_cubes table)
    next_present s r = at (g.whole d r.state (omega arith) r.from)
      where
        at : In r.state table → In s (add_all (suc d) next_cubes table)
        at i =
            ⊎_elim
            (λ (e : i.entry.number ≡ d).
            in_all_new (suc d) next_cubes table
            (Memᴰ.cast r.leads (spread_in n moves (frontier d table) (Memᴰ.cast (sym i.is) (frontier_in d table i.member e)) r.candidate)))
            (λ (lt : i.entry.number < d).
            in_all_old (suc d) next_cubes
            (g.whole (suc i.entry.number) s lt
            (record { state = r.state; move = r.move; from = subst (ReachIn (moved_by n) moves From i.entry.number) i.is (g.right i.entry i.member).reached; candidate = r.candidate; leads = r.leads })))
            (eq-or-lt_of_le (g.shallow i.entry i.member))

    next_counts : Counts (suc d) (add_all (suc d) next_cubes table)
    next_counts =
        record {
          shallow = λ x m. (rights x m).0;
          right = λ x m. (rights x m).1;
          whole = λ j s h r.
              ⊎_elim (λ (e : j ≡ suc d). next_present s (subst (λ (k : ℕ). ReachIn (moved_by n) moves From k s) e r))
              (λ (lt : j < suc d). in_all_old (suc d) next_cubes (g.whole j s (omega arith) r)) (eq-or-lt_of_le h);
        }

  pub built_counts : (d : ℕ) → Counts d (built n starts moves d)
  unfolding built
  built_counts zero = first_counts
  built_counts (suc d) = next_counts d (built n starts moves d) (built_sorted d) (built_counts d)

  -- by place, it is exact
  pub counts_exact : {depth : ℕ} {table : List Entry} → Counts depth table → Exact (moved_by n) moves From depth (key_in table) (number_in table) (length table)
  counts_exact {depth} {table} g =
      record {
        shallow = λ i h. g.shallow (get_or table i no_entry) (member_at table i no_entry h);
        right = λ i h. g.right (get_or table i no_entry) (member_at table i no_entry h);
        whole = λ j s h r.
            let i = g.whole j s h r in
            let p = member_place no_entry i.member in
            (p.at, p.within, ap (λ (x : Entry). x.key) p.is ∙ i.is);
      }
