-- From stage to stage: what a level adds has its least count, and when all that was due is there, the next level is due.
use Prim.Native.Nat.{ℕ, zero, suc, ◌+◌, ◌*◌, ◌/◌, ◌≤◌, ◌<◌}
use mathlib.Core.Path.{◌≡◌, refl, sym, ap, subst, ◌∙◌}
use mathlib.Core.Bool.{Bool, true}
use mathlib.Core.Logic.{⊎_elim}
use mathlib.Core.List.Memᴰ
use mathlib.Core.List.{List, [], ◌∷◌, Memᴰ}
use native.Mathlib.Nat.{eq-or-lt_of_le, zero-mul, suc-mul}
use native.Mathlib.Omega.{arith}
use lib.ListN.{length, take, drop, get_or}
use lib.Seq.{drop-drop}
use Rattle.ground.specs.Choice.{pick}
use Rattle.ground.proofs.ListLaws.{member_at}
use Rattle.ground.proofs.ChoiceLaws.{less_cases, order_cases}
use Rattle.generic_cube.specs.Sizes.{stickers}
use Rattle.table.specs.Order.{order_of}
use Rattle.table.proofs.OrderLaws.{order_split, same_eq}
use Rattle.table.specs.Entries.{entry_key, entry_number, Rising, Present}
use Rattle.table.specs.Inner.{Distinct}
use Rattle.table.specs.Table.{Entry, numbered}
use Rattle.search_theory.specs.Levels.{OneMove, ReachIn, Least}
use Rattle.key_index.specs.declared.Classes.{Classes}
use Rattle.key_index.specs.InnerIndex.{classes}
use Rattle.key_index.proofs.IndexLaws.{class_most}
use Rattle.table_level.specs.declared.Stage.{Stage}
use Rattle.std.specs.Prelude.{Option, Some, None, Err}
use Rattle.table_climb.specs.declared.Stop.TheVariants as risen
use Rattle.table_theory.specs.Built.{add, cubes, starts_of, table_of}
use Rattle.table.proofs.EntryListLaws.{no_entry}
use Rattle.table_theory.proofs.AddLaws.{add_cases, add_sorted, Sorted, sorted_rising}
use Rattle.search_theory.specs.CubeSearch.{moved_by}
use Rattle.table_theory.specs.Exact.{Start}
use Rattle.table_theory.proofs.CountLaws.{built_counts, built_sorted, counts_exact}
use Rattle.table_theory.proofs.RisingLaws.{no_more}
use Rattle.table_level.specs.Inner.{Widened, Outgrown, Due, SourcesThere, Swept, Source, Covered, next_stage, outgrown_stage, Stayed}
use Rattle.table_climb.specs.Inner.{Staged, Stood, Outnumbered, RiseTold, Raised}
use Rattle.table_level.proofs.LevelLaws.{due_first, due_later, present_on, stay_none, stay_two, stay_entries}

-- the starting cubes by their places
cubes_at : (m k : ℕ) (l : List ℕ) (i : ℕ) → i < k → Memᴰ (take m (drop (i * m) l)) (cubes m k l)
unfolding cubes
cubes_at m zero l i h = absurd (omega arith)
cubes_at m (suc k) l zero h = Memᴰ.head (ap (λ (j : ℕ). take m (drop j l)) (zero-mul m))
cubes_at m (suc k) l (suc i) h =
    Memᴰ.tail (subst (λ (r : List ℕ). Memᴰ (take m r) (cubes m k (drop m l))) (cube_on m l i) (cubes_at m k (drop m l) i (omega arith)))
  where
    cube_on : (m : ℕ) (l : List ℕ) (i : ℕ) → drop (i * m) (drop m l) ≡ drop (suc i * m) l
    cube_on m l i = let e : m + i * m ≡ suc i * m = omega (arith, suc-mul i m) in drop-drop (i * m) m l ∙ ap (λ (j : ℕ). drop j l) e

record CubePlace (m k : ℕ) (l s : List ℕ) : Type 0 where
  at : ℕ
  inside : at < k
  is : s ≡ take m (drop (at * m) l)

cubes-place : (m k : ℕ) (l s : List ℕ) → Memᴰ s (cubes m k l) → CubePlace m k l s
unfolding cubes
cubes-place m zero l s i = absurd (Memᴰ.not-nil i)
cubes-place m (suc k) l s i =
    ⊎_elim
    (λ (e : s ≡ take m l). record { at = 0; inside = omega arith; is = e ∙ ap (λ (j : ℕ). take m (drop j l)) (sym (zero-mul m)) })
    (λ r.
    let c = cubes-place m k (drop m l) s r in
    let e : m + c.at * m ≡ suc c.at * m = omega (arith, suc-mul c.at m) in
    record { at = suc c.at; inside = omega (arith, c.inside); is = c.is ∙ ap (take m) (drop-drop (c.at * m) m l ∙ ap (λ (j : ℕ). drop j l) e) })
    (Memᴰ.cases_cons i)

-- different keys are no more than rising keys among which each stands, and with one more they are fewer
abbrev gather : (ℕ → List ℕ) → ℕ → List Entry
gather k zero = []
gather k (suc n) = add (numbered (k n) 0) (gather k n)

gather_sorted : (k : ℕ → List ℕ) (n : ℕ) → Sorted (gather k n)
unfolding Sorted
gather_sorted k zero = tt
gather_sorted k (suc n) = add_sorted (numbered (k n) 0) (gather k n) (gather_sorted k n)

gather_from : (k : ℕ → List ℕ) (n : ℕ) {x : Entry} → Memᴰ x (gather k n) → Present k n x.key
gather_from k zero m = absurd (Memᴰ.not-nil m)
gather_from k (suc n) {x} m =
    ⊎_elim (λ (e : x ≡ numbered (k n) 0). (n, omega arith, ap (λ (y : Entry). y.key) (sym e)))
    (λ r. let p = gather_from k n r in (p.0, omega (arith, p.1), p.2)) (add_cases (numbered (k n) 0) (gather k n) m)

add_new : (x : Entry) (table : List Entry) → ((y : Entry) → Memᴰ y table → y.key ≡ x.key → ⊥) → length (add x table) ≡ suc (length table)
unfolding add
add_new x [] f = refl
add_new x (y ∷ ys) f =
    order_split (order_of y.key x.key)
    (λ e. rw e (ap suc (add_new x ys (λ z m. f z (Memᴰ.tail m)))))
    (λ e. absurd (f y (Memᴰ.head refl) (same_eq y.key x.key e)))
    (λ e. rw e)

gather-length : (k : ℕ → List ℕ) (n : ℕ) → Distinct k n → length (gather k n) ≡ n
gather-length k zero f = refl
gather-length k (suc n) f =
    add_new (numbered (k n) 0) (gather k n)
    (λ y m e. let p = gather_from k n m in f p.0 n p.1 (omega arith) (p.2 ∙ e))
    ∙ ap suc (gather-length k n (λ i j lt h. f i j lt (omega arith)))

outnumber : {k k' : ℕ → List ℕ} {n n' : ℕ} (s : List ℕ) → Distinct k n → (Present k n s → ⊥) → Rising k' n'
    → ((i : ℕ) → i < n → Present k' n' (k i)) → Present k' n' s → n < n'
outnumber {k} {k'} {n} {n'} s f absent up into last =
    let l = add (numbered s 0) (gather k n) in
    let e : length l ≡ suc n =
    add_new (numbered s 0) (gather k n) (λ y m q. let p = gather_from k n m in absent (p.0, p.1, p.2 ∙ q)) ∙ ap suc (gather-length k n f) in
    let more = no_more (sorted_rising l (add_sorted (numbered s 0) (gather k n) (gather_sorted k n))) up
    (λ i h.
    ⊎_elim (λ (q : get_or l i no_entry ≡ numbered s 0). subst (Present k' n') (sym (ap (λ (x : Entry). x.key) q)) last)
    (λ r. let p = gather_from k n r in subst (Present k' n') p.2 (into p.0 p.1))
    (add_cases (numbered s 0) (gather k n) (member_at l i no_entry h))) in
    omega (arith, more, e)

-- no number is above the level's
staged_most : {n : ℕ} {starts moves : List ℕ} {depth : ℕ} {t : List ℕ} {stage : Stage} → Staged n starts moves depth t stage → (i : ℕ) → i < stage.count
    → entry_number (stickers n) t i ≤ stage.number
staged_most {stage = stage} g i h =
    less_cases i stage.base
    (λ lt. less_cases i stage.from (λ a. omega (arith, g.old i a lt)) (λ a. omega (arith, g.front i a lt)))
    (λ ge. omega (arith, g.new i ge h))

module _ {n : ℕ} {starts moves : List ℕ} {depth : ℕ} {t : List ℕ} {stage : Stage} (g : Staged n starts moves depth t stage) where
  -- its places are those of starting cubes or of entries
  pub staged_placed : SourcesThere n stage.number starts stage.count stage.last
  staged_placed = record { first = λ q. omega (arith, (g.first q).2); later = λ f. omega (arith, g.later f, g.begun) }

  -- what is due is reached by as many candidates as the level's number
  due_reach : (e at : ℕ) (s : List ℕ) → e ≡ stage.number → stage.from ≤ at → at < stage.last → Due n starts moves e t at s
      → ReachIn (moved_by n) moves (Start n starts) e s
  due_reach zero at s q a b d =
      subst (Start n starts) (sym (d.first refl))
      (cubes_at (stickers n) (length starts / stickers n) starts at (omega (arith, (g.first (sym q)).2)))
  due_reach (suc d) at s q a b x =
      let l = x.later (λ z. omega arith) in
      let base : at < stage.base = omega (arith, g.later (λ z. omega arith)) in
      let number : entry_number (stickers n) t at ≡ d = omega (arith, g.front at a base) in
      record {
        state = entry_key (stickers n) t at;
        move = l.move;
        from = subst (λ (j : ℕ). ReachIn (moved_by n) moves (Start n starts) j (entry_key (stickers n) t at)) number (g.right at (omega (arith, g.begun))).reached;
        candidate = l.candidate;
        leads = l.leads;
      }

  source_reach : (s : List ℕ) → Source n starts moves stage t s → ReachIn (moved_by n) moves (Start n starts) stage.number s
  source_reach s x = due_reach stage.number x.at s refl x.low x.high x.due

  -- more of the level's entries are there
  module _ {t' : List ℕ} {c : ℕ} (inside : stage.number ≤ depth) (w : Widened (stickers n) stage.number (Source n starts moves stage t) t stage.count t' c) where
    grown_distinct : Distinct (entry_key (stickers n) t') c
    grown_distinct = w.distinct g.distinct

    grown_right : (i : ℕ) → i < c → Least (moved_by n) moves (Start n starts) (entry_number (stickers n) t' i) (entry_key (stickers n) t' i)
    grown_right i h =
        less_cases i stage.count
        (λ lt.
        subst (λ (j : ℕ). Least (moved_by n) moves (Start n starts) j (entry_key (stickers n) t' i)) (sym (w.number i lt))
        (subst (Least (moved_by n) moves (Start n starts) (entry_number (stickers n) t i)) (sym (w.key i lt)) (g.right i lt)))
        (λ ge.
        let f = w.fresh i ge h in
        subst (λ (j : ℕ). Least (moved_by n) moves (Start n starts) j (entry_key (stickers n) t' i)) (sym f.0)
        (record {
          reached = source_reach (entry_key (stickers n) t' i) f.1;
          least = λ j lt r.
              let p = g.whole j (entry_key (stickers n) t' i) lt r in
              grown_distinct p.0 i (omega (arith, p.1)) h (w.key p.0 p.1 ∙ p.2);
        }))

    pub staged_grown : (large : Bool)
        → Staged n starts moves depth t' (record { number = stage.number; from = stage.from; last = stage.last; base = stage.base; count = c; large = large })
    staged_grown large =
        record {
          room = w.room;
          within = g.within;
          begun = omega (arith, g.begun, w.stayed.more);
          ended = λ lt. absurd (omega arith);
          first = g.first;
          later = g.later;
          distinct = grown_distinct;
          right = grown_right;
          whole = λ j s lt r. present_on w s (g.whole j s lt r);
          old = λ i a b. omega (arith, w.number i (omega (arith, g.begun)), g.old i a b);
          front = λ i a b. w_front i a b;
          new = λ i a b.
              less_cases i stage.count
              (λ lt. w.number i lt ∙ g.new i a lt)
              (λ ge. (w.fresh i ge b).0);
        }
      where
        w_front : (i : ℕ) → stage.from ≤ i → i < stage.base → entry_number (stickers n) t' i + 1 ≡ stage.number
        w_front i a b = ap (λ (j : ℕ). j + 1) (w.number i (omega (arith, g.begun))) ∙ g.front i a b

  -- the states outnumber the entries that fit
  pub staged_over : {t' : List ℕ} → stage.number ≤ depth → Outgrown (stickers n) stage.number (Source n starts moves stage t) t stage.count t'
      → Outnumbered n starts moves depth t
  staged_over {t'} inside o =
      let w = o.widened in
      let x = counts_exact n (starts_of n starts) moves (built_counts n (starts_of n starts) moves depth) in
      let h = staged_grown inside w true in
      outnumber o.state h.distinct o.absent (sorted_rising (table_of n starts moves depth) (built_sorted n (starts_of n starts) moves depth))
      (λ i k. x.whole (entry_number (stickers n) t' i) (entry_key (stickers n) t' i) (omega (arith, staged_most h i k)) (h.right i k).reached)
      (x.whole stage.number o.state inside (source_reach o.state o.new))

-- all that was due is there: the next level
module _ {n : ℕ} {starts moves : List ℕ} {depth : ℕ} {t : List ℕ} {stage : Stage} (g : Staged n starts moves depth t stage)
    (inside : stage.number ≤ depth) (done : Covered n starts moves stage t stage.count) where
  -- a state reached by one candidate more than another that is there
  level_step : (d : ℕ) (s : List ℕ) → suc d ≡ stage.number → OneMove (moved_by n) moves (Start n starts) (ReachIn (moved_by n) moves (Start n starts) d) s
      → Present (entry_key (stickers n) t) stage.count s
  level_step d s q r = at (g.whole d r.state (omega arith) r.from)
    where
      at : Present (entry_key (stickers n) t) stage.count r.state → Present (entry_key (stickers n) t) stage.count s
      at (i, h, e) =
          let known = g.right i h in
          order_cases (entry_number (stickers n) t i) d
          (λ lt.
          g.whole (suc (entry_number (stickers n) t i)) s (omega arith)
          (record { state = r.state; move = r.move; from = subst (ReachIn (moved_by n) moves (Start n starts) (entry_number (stickers n) t i)) e known.reached; candidate = r.candidate; leads = r.leads }))
          (λ eq.
          let base : i < stage.base = less_cases i stage.base (λ lt. lt) (λ ge. absurd (omega (arith, g.new i ge h))) in
          let from : stage.from ≤ i = less_cases i stage.from (λ lt. absurd (omega (arith, g.old i lt base))) (λ ge. ge) in
          let later : stage.number ≡ 0 → ⊥ = λ z. omega arith in
          done s
          (record {
            at = i;
            low = from;
            high = omega (arith, g.later later);
            due = due_later later (record { move = r.move; candidate = r.candidate; leads = r.leads ∙ ap (moved_by n r.move) (sym e) });
          }))
          (λ gt. absurd (known.least d gt (subst (ReachIn (moved_by n) moves (Start n starts) d) (sym e) r.from)))

  level_first : (s : List ℕ) → stage.number ≡ 0 → Start n starts s → Present (entry_key (stickers n) t) stage.count s
  level_first s q i =
      let c = cubes-place (stickers n) (length starts / stickers n) starts s i in
      let f = g.first q in
      done s (record { at = c.at; low = omega (arith, f.0); high = omega (arith, f.2, c.inside); due = due_first q c.is })

  level_all : (e : ℕ) (s : List ℕ) → e ≡ stage.number → ReachIn (moved_by n) moves (Start n starts) e s → Present (entry_key (stickers n) t) stage.count s
  level_all zero s q r = level_first s (sym q) r
  level_all (suc d) s q r = level_step d s q r

  pub staged_next : Staged n starts moves depth t (next_stage stage stage.count)
  staged_next =
      record {
        room = g.room;
        within = omega arith;
        begun = omega arith;
        ended = λ lt. refl;
        first = λ q. absurd (omega arith);
        later = λ f. refl;
        distinct = g.distinct;
        right = g.right;
        whole = λ j s lt r.
            let le : j ≤ stage.number = omega arith in
            ⊎_elim (λ (e : j ≡ stage.number). level_all j s e r) (λ (h : j < stage.number). g.whole j s h r) (eq-or-lt_of_le le);
        old = λ i a b. less_cases i stage.from (λ lt. omega (arith, g.old i lt a)) (λ ge. omega (arith, g.front i ge a));
        front = λ i a b. ap (λ (j : ℕ). j + 1) (g.new i a b);
        new = λ i a b. absurd (omega arith);
      }

-- a level that came to its end, and the last one
pub staged_level : {n : ℕ} {starts moves : List ℕ} {depth : ℕ} {t t' : List ℕ} {stage : Stage} {c : ℕ} → Staged n starts moves depth t stage → stage.number ≤ depth
    → Widened (stickers n) stage.number (Source n starts moves stage t) t stage.count t' c → Covered n starts moves stage t' c
    → Staged n starts moves depth t' (next_stage stage c)
staged_level {stage = stage} g inside w done = staged_next (staged_grown g inside w stage.large) inside done

pub staged_done : {n : ℕ} {starts moves : List ℕ} {depth : ℕ} {t : List ℕ} {stage : Stage} → Staged n starts moves depth t stage → depth < stage.number
    → Stood n starts moves depth t stage.count
staged_done {n} {starts} {moves} {depth} {t} {stage} g h =
    record {
      room = g.room;
      distinct = g.distinct;
      exact =
          record {
            shallow = λ i k.
                let base : i < stage.base = omega (arith, g.ended h) in
                less_cases i stage.from (λ a. omega (arith, g.old i a base, g.within)) (λ a. omega (arith, g.front i a base, g.within));
            right = g.right;
            whole = λ j s le r. g.whole j s (omega arith) r;
          };
    }

-- the same stage, for a large index
staged_large : {n : ℕ} {starts moves : List ℕ} {depth : ℕ} {t : List ℕ} {stage : Stage} → Staged n starts moves depth t stage
    → Staged n starts moves depth t (outgrown_stage stage stage.count)
staged_large g =
    record {
      room = g.room;
      within = g.within;
      begun = g.begun;
      ended = g.ended;
      first = g.first;
      later = g.later;
      distinct = g.distinct;
      right = g.right;
      whole = g.whole;
      old = g.old;
      front = g.front;
      new = g.new;
    }

-- over the slice as it was before
pub outnumbered_on : (n : ℕ) (starts moves : List ℕ) (depth : ℕ) {t t' : List ℕ} {count count' : ℕ} → Stayed (stickers n) t count t' count'
    → Outnumbered n starts moves depth t' → Outnumbered n starts moves depth t
outnumbered_on n starts moves depth k h = subst (λ (j : ℕ). j < length (table_of n starts moves depth)) (stay_entries k) h

pub raised_on : (n : ℕ) (starts moves : List ℕ) (depth : ℕ) {t t₁ : List ℕ} (t' : List ℕ) {count count₁ : ℕ} (r : Option ℕ) → Stayed (stickers n) t count t₁ count₁
    → Raised n starts moves depth t₁ count₁ t' r → Raised n starts moves depth t count t' r
raised_on n starts moves depth t' (Some c) k x = (x.0, stay_two k x.1)
raised_on n starts moves depth t' None k x = outnumbered_on n starts moves depth k x

-- climbing from one stage to another
pub record Standing (n : ℕ) (starts moves : List ℕ) (depth : ℕ) (t₀ : List ℕ) (count₀ : ℕ) (t : List ℕ) (s : Stage) : Type 0 where
  pub staged : Staged n starts moves depth t s
  pub stayed : Stayed (stickers n) t₀ count₀ t s.count

pub stand_first : {n : ℕ} {starts moves : List ℕ} {depth : ℕ} {t : List ℕ} {s : Stage} → Staged n starts moves depth t s → Standing n starts moves depth t s.count t s
stand_first g = record { staged = g; stayed = stay_none }

module _ {n : ℕ} {starts moves : List ℕ} {depth : ℕ} {t₀ : List ℕ} {count₀ : ℕ} {t : List ℕ} {s : Stage} (g : Standing n starts moves depth t₀ count₀ t s) where
  -- it pauses for a larger index
  pub stand_pause : {s' : Stage} → s' ≡ outgrown_stage s s.count → RiseTold n starts moves depth t₀ count₀ t (Err (risen.Outgrown s'))
  stand_pause {s'} q =
      subst (λ (x : Stage). RiseTold n starts moves depth t₀ count₀ t (Err (risen.Outgrown x))) (sym q) (staged_large g.staged, g.stayed, refl)

  module _ (inside : s.number ≤ depth) where
    pub stand_crowded : {t' : List ℕ} {c : ℕ} {s' : Stage} → Widened (stickers n) s.number (Source n starts moves s t) t s.count t' c → s' ≡ outgrown_stage s c
        → RiseTold n starts moves depth t₀ count₀ t' (Err (risen.Outgrown s'))
    stand_crowded {t'} {c} {s'} w q =
        subst (λ (x : Stage). RiseTold n starts moves depth t₀ count₀ t' (Err (risen.Outgrown x))) (sym q)
        (staged_grown g.staged inside w true, stay_two g.stayed w.stayed, refl)

    pub stand_over : {t' : List ℕ} → Outgrown (stickers n) s.number (Source n starts moves s t) t s.count t' → Outnumbered n starts moves depth t₀
    stand_over o = outnumbered_on n starts moves depth g.stayed (staged_over g.staged inside o)

    pub stand_level : {t' : List ℕ} {c : ℕ} {s' : Stage} → Widened (stickers n) s.number (Source n starts moves s t) t s.count t' c → Covered n starts moves s t' c
        → s' ≡ next_stage s c → Standing n starts moves depth t₀ count₀ t' s'
    stand_level {t'} w done q =
        subst (Standing n starts moves depth t₀ count₀ t') (sym q) (record { staged = staged_level g.staged inside w done; stayed = stay_two g.stayed w.stayed })

  pub stand_done : depth < s.number → Stood n starts moves depth t s.count × Stayed (stickers n) t₀ count₀ t s.count
  stand_done h = (staged_done g.staged h, g.stayed)

-- all classes were swept
pub swept_all : {n : ℕ} {starts moves : List ℕ} (s : Stage) {t : List ℕ} {c : ℕ} (k : Classes) → k.low ≡ 0 → k.high ≡ classes
    → Swept n starts moves k s.number s.from s.last t c → Covered n starts moves s t c
swept_all s k low high f r x = f x.at x.low x.high r x.due (omega arith, omega (arith, class_most r))

-- the calls that are left: one, from the small index to the large one
abbrev pub tier : Bool → ℕ
tier large = pick large 0 1
