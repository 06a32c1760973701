-- Laws of entries that are added to the end of others, and of what a stretch of a level comes to.
use Prim.Native.Nat.{ℕ, suc, ◌+◌, ◌-◌, ◌*◌, ◌/◌, ◌≤◌, ◌<◌}
use mathlib.Core.Path.{◌≡◌, refl, sym, ap, ap₂, subst, ◌∙◌}
use mathlib.Core.Bool.{false}
use mathlib.Core.Logic.{⊎_elim}
use mathlib.Core.List.{List, [], ◌∷◌, ◌++◌, append_assoc}
use native.Mathlib.Nat.{eq-or-lt_of_le, mul-le-mul_right, suc-mul}
use native.Mathlib.Numerals.{add-one}
use native.Mathlib.Omega.{arith}
use lib.ListN.{length, take, drop, get_or, set, length-append}
use lib.Seq.{length-take-le, drop-cons, drop-drop, take_at, get_or_at, set_at}
use Rattle.ground.proofs.ChoiceLaws.{less_cases}
use Rattle.ground.proofs.ListLaws.{member_place}
use Rattle.generic_cube.specs.Sizes.{stickers}
use Rattle.table.specs.Entries.{entry_key, entry_number, Present}
use Rattle.table.specs.Inner.{entry_at, with_entry}
use Rattle.table.specs.Table.{entry_count}
use Rattle.table.proofs.TableLaws.{fits}
use Rattle.table.proofs.EntriesLaws.{entry_key_lem, entry_number_lem, written_long, written_here, written_past, written_elsewhere}
use Rattle.key_index.specs.declared.Classes.{Classes}
use Rattle.key_index.specs.InnerIndex.{classes, class_of, Indexed}
use Rattle.key_index.proofs.IndexLaws.{class_most}
use Rattle.search_theory.specs.CubeSearch.{moved_by}
use Rattle.std.specs.Prelude.{Some, None, Result, Ok, Err}
use Rattle.table_level.specs.declared.Halt.{Halt}
use Rattle.table_level.specs.declared.Halt.TheVariants.{Crowded, Full}
use Rattle.table_level.specs.declared.Stage.{Stage}
use Rattle.table_level.specs.Inner.{entry_of, Stayed, Widened, Outgrown, Tracking, Going, Stretched, went, crowded, full, Candidate, Entered, LeadsTo, Fanned, start_at, Due, SourcesThere, SourceVisited, Swept, Sourced, Source, SweepTold, Levelled, outgrown_stage}

-- what holds of the places from `from` up to i, and of i, holds up to i + 1
pub up_to_lem : (P : ℕ → Type 0) (from i : ℕ) → ((j : ℕ) → from ≤ j → j < i → P j) → P i → (j : ℕ) → from ≤ j → j < i + 1 → P j
up_to_lem P from i f p j g h =
    let le : j ≤ i = omega arith in
    ⊎_elim (λ (e : j ≡ i). subst P (sym e) p) (λ (lt : j < i). f j g lt) (eq-or-lt_of_le le)

-- nothing but the entries changed: at first, and from stage to stage
pub stay_none : {m count : ℕ} {t : List ℕ} → Stayed m t count t count
stay_none = record { more = omega arith; long = refl; past = refl }

drop_later : (a b : ℕ) (x y : List ℕ) → a ≤ b → drop a x ≡ drop a y → drop b x ≡ drop b y
drop_later a b x y h e =
    let k : a + (b - a) ≡ b = omega arith in
    ap (λ (j : ℕ). drop j x) (sym k) ∙ sym (drop-drop (b - a) a x) ∙ ap (drop (b - a)) e ∙ drop-drop (b - a) a y ∙ ap (λ (j : ℕ). drop j y) k

pub stay_two : {m count count' count'' : ℕ} {t t' t'' : List ℕ} → Stayed m t count t' count' → Stayed m t' count' t'' count'' → Stayed m t count t'' count''
stay_two {m} {count} {count'} {count''} {t} {t'} {t''} g h =
    record {
      more = omega (arith, g.more, h.more);
      long = h.long ∙ g.long;
      past = h.past ∙ drop_later (count' * (m + 1)) (count'' * (m + 1)) t' t (mul-le-mul_right (m + 1) h.more) g.past;
    }

-- the entries that fit are as many as before
pub stay_entries : {m count count' : ℕ} {t t' : List ℕ} → Stayed m t count t' count' → entry_count m t' ≡ entry_count m t
stay_entries {m} g = ap (λ (k : ℕ). k / (m + 1)) g.long

-- by none, told otherwise, and one stretch after another
module _ {m e : ℕ} where
  pub widen_none : {New : List ℕ → Type 0} {t : List ℕ} {count : ℕ} → count ≤ entry_count m t → Widened m e New t count t count
  widen_none h =
      record { room = h; stayed = stay_none; key = λ i g. refl; number = λ i g. refl; fresh = λ i g k. absurd (omega arith); distinct = λ d. d }

  pub widen_as : {New New' : List ℕ → Type 0} {t t' : List ℕ} {count count' : ℕ} → ((s : List ℕ) → New s → New' s) → Widened m e New t count t' count'
      → Widened m e New' t count t' count'
  widen_as f w =
      record {
        room = w.room;
        stayed = w.stayed;
        key = w.key;
        number = w.number;
        fresh = λ i g k. let x = w.fresh i g k in (x.0, f _ x.1);
        distinct = w.distinct;
      }

  pub widen_two : {New : List ℕ → Type 0} {t t' t'' : List ℕ} {count count' count'' : ℕ} → Widened m e New t count t' count' → Widened m e New t' count' t'' count''
      → Widened m e New t count t'' count''
  widen_two {New} {t} {t'} {t''} {count} {count'} {count''} g h =
      record {
        room = h.room;
        stayed = stay_two g.stayed h.stayed;
        key = λ i k. h.key i (omega (arith, g.stayed.more)) ∙ g.key i k;
        number = λ i k. h.number i (omega (arith, g.stayed.more)) ∙ g.number i k;
        fresh = λ i a b.
            less_cases i count'
            (λ lt. let x = g.fresh i a lt in (h.number i lt ∙ x.0, subst New (sym (h.key i lt)) x.1))
            (λ ge. h.fresh i ge b);
        distinct = λ d. h.distinct (g.distinct d);
      }

  -- what is there stays
  pub present_on : {New : List ℕ → Type 0} {t t' : List ℕ} {count count' : ℕ} → Widened m e New t count t' count' → (s : List ℕ)
      → Present (entry_key m t) count s → Present (entry_key m t') count' s
  present_on w s (i, h, q) = (i, omega (arith, w.stayed.more), w.key i h ∙ q)

  -- one more state than fit, told otherwise, and after a stretch
  pub outgrown_as : {New New' : List ℕ → Type 0} {t t' : List ℕ} {count : ℕ} → ((s : List ℕ) → New s → New' s) → Outgrown m e New t count t'
      → Outgrown m e New' t count t'
  outgrown_as f o = record { widened = widen_as f o.widened; state = o.state; new = f o.state o.new; absent = o.absent }

  pub outgrown_on : {New : List ℕ → Type 0} {t t' t'' : List ℕ} {count count' : ℕ} → Widened m e New t count t' count' → Outgrown m e New t' count' t''
      → Outgrown m e New t count t''
  outgrown_on {New} {t} {t'} {t''} {count} w o =
      let q = stay_entries w.stayed in
      record {
        widened = subst (Widened m e New t count t'') q (widen_two w o.widened);
        state = o.state;
        new = o.new;
        absent = λ p. o.absent (subst (λ (k : ℕ). Present (entry_key m t'') k o.state) (sym q) p);
      }

-- a key that was not there, at the end
module _ (m e count : ℕ) (s t : List ℕ) (long : length s ≡ m) (h : count < entry_count m t) (absent : Present (entry_key m t) count s → ⊥)
    {t' : List ℕ} (is : t' ≡ with_entry m count (entry_of s e) t) where
  append_fit : count * (m + 1) + (m + 1) ≤ length t
  append_fit = fits m count t h

  entry_tall : length (entry_of s e) ≡ m + 1
  entry_tall = length-append s (e ∷ []) ∙ ap (λ (k : ℕ). k + 1) long

  here : entry_at m t' count ≡ entry_of s e
  here = ap (λ (l : List ℕ). entry_at m l count) is ∙ written_here m count (entry_of s e) t entry_tall append_fit

  append_kept : (i : ℕ) → i < count → entry_at m t' i ≡ entry_at m t i
  append_kept i g = ap (λ (l : List ℕ). entry_at m l i) is ∙ written_elsewhere m count (entry_of s e) t entry_tall append_fit i (λ q. omega arith)

  pub append_key : (i : ℕ) → i < count → entry_key m t' i ≡ entry_key m t i
  append_key i g = entry_key_lem m t' i ∙ ap (take m) (append_kept i g) ∙ sym (entry_key_lem m t i)

  pub append_new : entry_key m t' count ≡ s
  append_new = entry_key_lem m t' count ∙ ap (take m) here ∙ take_at s (e ∷ []) m long

  append_long : length t' ≡ length t
  append_long = ap length is ∙ written_long m count (entry_of s e) t entry_tall append_fit

  append_last : {i : ℕ} → count ≤ i → i < count + 1 → i ≡ count
  append_last a b = omega arith

  pub widen_append : Widened m e (λ r. r ≡ s) t count t' (count + 1)
  widen_append =
      let next : (count + 1) * (m + 1) ≡ count * (m + 1) + (m + 1) = ap (λ (k : ℕ). k * (m + 1)) (add-one count) ∙ suc-mul count (m + 1) in
      record {
        room = subst (λ (k : ℕ). count + 1 ≤ k / (m + 1)) (sym append_long) (omega arith);
        stayed =
            record {
              more = omega arith;
              long = append_long;
              past = ap (λ (k : ℕ). drop k t') next ∙ ap (drop (count * (m + 1) + (m + 1))) is ∙ written_past m count (entry_of s e) t entry_tall append_fit ∙ ap (λ (k : ℕ). drop k t) (sym next);
            };
        key = append_key;
        number = λ i g. entry_number_lem m t' i ∙ ap (λ (x : List ℕ). get_or x m 0) (append_kept i g) ∙ sym (entry_number_lem m t i);
        fresh = λ i a b.
            let q = append_last a b in (
              ap (entry_number m t') q ∙ entry_number_lem m t' count ∙ ap (λ (x : List ℕ). get_or x m 0) here ∙ get_or_at s e [] 0 m long,
              ap (entry_key m t') q ∙ append_new,
            );
        distinct = λ d i j lt b q.
            let le : j ≤ count = omega arith in
            ⊎_elim (λ (z : j ≡ count). absent (i, omega arith, sym (append_key i (omega arith)) ∙ q ∙ ap (entry_key m t') z ∙ append_new))
            (λ (z : j < count). d i j lt z (sym (append_key i (omega arith)) ∙ q ∙ append_key j z)) (eq-or-lt_of_le le);
      }

  pub present_append : Present (entry_key m t') (count + 1) s
  present_append = (count, omega arith, append_new)

-- the bytes that make it so: the key's and then the number
pub append-bytes : (m i : ℕ) {s : List ℕ} (t : List ℕ) {ys : List ℕ} (d : ℕ) → length s ≡ m → i * (m + 1) + (m + 1) ≤ length t → ys ≡ s
    → set (take (i * (m + 1)) t ++ (ys ++ drop (i * (m + 1) + m - i * (m + 1)) (drop (i * (m + 1)) t))) (i * (m + 1) + m) d ≡ with_entry m i (entry_of s d) t
append-bytes m i {s} t {ys} d long room f =
    let a = i * (m + 1) in
    let x = get_or t (a + m) 0 in
    let r = drop (a + (m + 1)) t in
    let g : a + m - a ≡ m = omega arith in
    let q : suc (a + m) ≡ a + (m + 1) = omega arith in
    let high : drop (a + m - a) (drop a t) ≡ x ∷ r =
    ap (λ (k : ℕ). drop k (drop a t)) g ∙ drop-drop m a t ∙ drop-cons t (a + m) 0 (omega arith) ∙ ap (λ (k : ℕ). x ∷ drop k t) q in
    ap (λ (l : List ℕ). set l (a + m) d) (ap₂ (λ (u v : List ℕ). take a t ++ (u ++ v)) f high ∙ sym (append_assoc (take a t) s (x ∷ r)))
    ∙ set_at (take a t ++ s) x r d (a + m) (length-append (take a t) s ∙ omega (arith, length-take-le a t (omega arith)))
    ∙ append_assoc (take a t) s (d ∷ r)
    ∙ ap (λ (l : List ℕ). take a t ++ l) (sym (append_assoc s (d ∷ []) r))

-- what was done by a stretch that came to its end, and why another came to none
pub came : {m e : ℕ} {New : List ℕ → Type 0} {t : List ℕ} {count : ℕ} {k : Classes} {Done : List ℕ → ℕ → Type 0} {t' index : List ℕ} {c : ℕ}
    → Stretched m e New t count k Done t' index (Ok c) → Going m e New t count k Done t' index c
came (went g) = g

pub crowding : {m e : ℕ} {New : List ℕ → Type 0} {t : List ℕ} {count : ℕ} {k : Classes} {Done : List ℕ → ℕ → Type 0} {t' index : List ℕ} {h : Halt} {c : ℕ}
    → h ≡ Crowded c → Stretched m e New t count k Done t' index (Err h) → Widened m e New t count t' c × (k.plain ≡ false)
crowding {m} {e} {New} {t} {count} {k} {Done} {t'} {index} {h} {c} q s = told (rw q at s)
  where
    told : Stretched m e New t count k Done t' index (Err (Crowded c)) → Widened m e New t count t' c × (k.plain ≡ false)
    told (crowded w p) = (w, p)

pub filled : {m e : ℕ} {New : List ℕ → Type 0} {t : List ℕ} {count : ℕ} {k : Classes} {Done : List ℕ → ℕ → Type 0} {t' index : List ℕ} {h : Halt}
    → h ≡ Full → Stretched m e New t count k Done t' index (Err h) → Outgrown m e New t count t'
filled {m} {e} {New} {t} {count} {k} {Done} {t'} {index} {h} q s = told (rw q at s)
  where
    told : Stretched m e New t count k Done t' index (Err Full) → Outgrown m e New t count t'
    told (full o) = o

-- told otherwise
pub stretched_as : {m e : ℕ} {New New' : List ℕ → Type 0} {t : List ℕ} {count : ℕ} {k : Classes} {Done Done' : List ℕ → ℕ → Type 0} {t' index : List ℕ} {r : Result ℕ Halt}
    → ((s : List ℕ) → New s → New' s) → ((c : ℕ) → Widened m e New t count t' c → Done t' c → Done' t' c)
    → Stretched m e New t count k Done t' index r → Stretched m e New' t count k Done' t' index r
stretched_as f h (went g) = went (record { widened = widen_as f g.widened; tracking = g.tracking; done = h _ g.widened g.done })
stretched_as f h (crowded w p) = crowded (widen_as f w) p
stretched_as f h (full o) = full (outgrown_as f o)

-- a later part of a stretch that did not come to its end
pub stretched_pass : {m e : ℕ} {New : List ℕ → Type 0} {t₀ t : List ℕ} {count₀ count : ℕ} {k : Classes} {Done Done' : List ℕ → ℕ → Type 0} {t' index : List ℕ} {h : Halt}
    → Widened m e New t₀ count₀ t count → Stretched m e New t count k Done t' index (Err h) → Stretched m e New t₀ count₀ k Done' t' index (Err h)
stretched_pass w (crowded v p) = crowded (widen_two w v) p
stretched_pass w (full o) = full (outgrown_on w o)

-- entering a key: it is there, or of another class; there is no room; it is new
module _ {m e count : ℕ} {s t : List ℕ} {k : Classes} where
  pub enter_stay : {index : List ℕ} → Tracking m count t index k → Entered m k s t count → Stretched m e (λ r. r ≡ s) t count k (Entered m k s) t index (Ok count)
  enter_stay x f = went (record { widened = widen_none x.room; tracking = x; done = f })

  pub enter_full : {index : List ℕ} → count ≤ entry_count m t → count ≡ entry_count m t → (Present (entry_key m t) count s → ⊥)
      → Stretched m e (λ r. r ≡ s) t count k (Entered m k s) t index (Err Full)
  enter_full h q f =
      full (record { widened = subst (Widened m e (λ r. r ≡ s) t count t) q (widen_none h); state = s; new = refl; absent = λ p. f (subst (λ (c : ℕ). Present (entry_key m t) c s) (sym q) p) })

  pub enter_new : {index index' t' : List ℕ} → Tracking m count t index k → length s ≡ m → count < entry_count m t → (Present (entry_key m t) count s → ⊥)
      → t' ≡ with_entry m count (entry_of s e) t → (k.plain ≡ false → Indexed m (count + 1) t' index' k)
      → Stretched m e (λ r. r ≡ s) t count k (Entered m k s) t' index' (Ok (count + 1))
  enter_new {index} {index'} {t'} x long h f is filed =
      let w = widen_append m e count s t long h f is in
      went
      (record {
        widened = w;
        tracking = record { room = w.room; few = λ p. subst (λ (c : ℕ). c < 4294967295) (sym (stay_entries w.stayed)) (x.few p); filed = filed };
        done = λ i. present_append m e count s t long h f is;
      })

-- the first i candidates of an entry are done
abbrev pub FannedTo : ℕ → List ℕ → Classes → List ℕ → ℕ → List ℕ → ℕ → Type 0
FannedTo n moves k cube i t c = (j : ℕ) → 0 ≤ j → j < i → Entered (stickers n) k (moved_by n (get_or moves j 0) cube) t c

-- one more of them, and all
module _ {n e : ℕ} {moves t₀ : List ℕ} (cube : List ℕ) {count₀ : ℕ} {k : Classes} where
  pub fan_more : {t t' index index' : List ℕ} {count count' i : ℕ} → Going (stickers n) e (LeadsTo n moves cube) t₀ count₀ k (FannedTo n moves k cube i) t index count
      → Going (stickers n) e (LeadsTo n moves cube) t count k (Entered (stickers n) k (moved_by n (get_or moves i 0) cube)) t' index' count'
      → Going (stickers n) e (LeadsTo n moves cube) t₀ count₀ k (FannedTo n moves k cube (i + 1)) t' index' count'
  fan_more {t} {t'} {count = count} {count'} {i} g h =
      record {
        widened = widen_two g.widened h.widened;
        tracking = h.tracking;
        done = up_to_lem (λ j. Entered (stickers n) k (moved_by n (get_or moves j 0) cube) t' count') 0 i
            (λ j a b w. present_on h.widened (moved_by n (get_or moves j 0) cube) (g.done j a b w)) h.done;
      }

  pub fan_all : {t index : List ℕ} {count i : ℕ} → length moves ≤ i → Going (stickers n) e (LeadsTo n moves cube) t₀ count₀ k (FannedTo n moves k cube i) t index count
      → Going (stickers n) e (LeadsTo n moves cube) t₀ count₀ k (Fanned n moves k cube) t index count
  fan_all {t} {index} {count} h g =
      record {
        widened = g.widened;
        tracking = g.tracking;
        done = λ s l.
            let p = member_place 0 l.candidate in
            let q : moved_by n (get_or moves p.at 0) cube ≡ s = ap (λ (c : ℕ). moved_by n c cube) p.is ∙ sym l.leads in
            subst (λ (x : List ℕ). Entered (stickers n) k x t count) q (g.done p.at (omega arith) (omega (arith, p.within)));
      }

-- the cube that a candidate leads to was entered
module _ {n e count : ℕ} (code : ℕ) {moves t : List ℕ} {k : Classes} {t' index : List ℕ} {r : Result ℕ Halt} where
  pub child_entered : (x cube : List ℕ) → Candidate code moves → x ≡ moved_by n code cube
      → Stretched (stickers n) e (λ s. s ≡ x) t count k (Entered (stickers n) k x) t' index r
      → Stretched (stickers n) e (LeadsTo n moves cube) t count k (Entered (stickers n) k (moved_by n code cube)) t' index r
  child_entered x cube h q w =
      stretched_as (λ s z. record { move = code; candidate = h; leads = z ∙ q }) (λ c v d. subst (λ (y : List ℕ). Entered (stickers n) k y t' c) q d) w

  pub child_cube : (x y : List ℕ) → x ≡ y → Stretched (stickers n) e (LeadsTo n moves x) t count k (Entered (stickers n) k (moved_by n code x)) t' index r
      → Stretched (stickers n) e (LeadsTo n moves y) t count k (Entered (stickers n) k (moved_by n code y)) t' index r
  child_cube x y q w = subst (λ (z : List ℕ). Stretched (stickers n) e (LeadsTo n moves z) t count k (Entered (stickers n) k (moved_by n code z)) t' index r) q w

-- what is due at level 0 and at a later one
module _ {n e : ℕ} {starts moves t : List ℕ} {at : ℕ} {s : List ℕ} where
  pub due_first : e ≡ 0 → s ≡ start_at n starts at → Due n starts moves e t at s
  due_first q is = record { first = λ z. is; later = λ f. absurd (f q) }

  pub due_later : (e ≡ 0 → ⊥) → LeadsTo n moves (entry_key (stickers n) t at) s → Due n starts moves e t at s
  due_later f l = record { first = λ z. absurd (f z); later = λ g. l }

-- starting cube i is the part of the starts that is read
module _ (m i : ℕ) (starts : List ℕ) (some : 0 < m) (h : i < length starts / m) where
  pub start_is : take (i * m + m - i * m) (drop (i * m) starts) ≡ take m (drop (i * m) starts)
  start_is = let e : i * m + m - i * m ≡ m = omega arith in ap (λ (k : ℕ). take k (drop (i * m) starts)) e

-- so entering it, or fanning the entry out, is what was due
module _ {n e at : ℕ} (starts moves : List ℕ) {t : List ℕ} {count : ℕ} {k : Classes} {t' index : List ℕ} {r : Result ℕ Halt} where
  pub visit_first : {x : List ℕ} → e ≡ 0 → x ≡ start_at n starts at
      → Stretched (stickers n) e (λ s. s ≡ x) t count k (Entered (stickers n) k x) t' index r
      → Stretched (stickers n) e (Due n starts moves e t at) t count k (SourceVisited n starts moves k e at) t' index r
  visit_first q is =
      stretched_as (λ s z. due_first q (z ∙ is)) (λ c w d s due. subst (λ (y : List ℕ). Entered (stickers n) k y t' c) (is ∙ sym (due.first q)) d)

  pub visit_later : (e ≡ 0 → ⊥) → at < count
      → Stretched (stickers n) e (LeadsTo n moves (entry_key (stickers n) t at)) t count k (Fanned n moves k (entry_key (stickers n) t at)) t' index r
      → Stretched (stickers n) e (Due n starts moves e t at) t count k (SourceVisited n starts moves k e at) t' index r
  visit_later f h =
      stretched_as (λ s l. due_later f l) (λ c w d s due. d s (subst (λ (x : List ℕ). LeadsTo n moves x s) (w.key at h) (due.later f)))

-- it is the same for another table with that entry
due_key : {n e : ℕ} {starts moves t t' : List ℕ} {at : ℕ} {s : List ℕ} → ((e ≡ 0 → ⊥) → entry_key (stickers n) t' at ≡ entry_key (stickers n) t at)
    → Due n starts moves e t' at s → Due n starts moves e t at s
due_key {n} {moves = moves} {s = s} q d = record { first = d.first; later = λ f. subst (λ (x : List ℕ). LeadsTo n moves x s) (q f) (d.later f) }

module _ {n e e' : ℕ} {starts moves : List ℕ} {New : List ℕ → Type 0} {t t' : List ℕ} {count count' : ℕ} (w : Widened (stickers n) e' New t count t' count')
    {at append_last : ℕ} (p : SourcesThere n e starts count append_last) (h : at < append_last) {s : List ℕ} where
  pub due_back : Due n starts moves e t' at s → Due n starts moves e t at s
  due_back = due_key (λ f. w.key at (omega (arith, p.later f)))

pub placed_on : {n e : ℕ} {starts : List ℕ} {count count' append_last : ℕ} → count ≤ count' → SourcesThere n e starts count append_last → SourcesThere n e starts count' append_last
placed_on h p = record { first = p.first; later = λ q. omega (arith, p.later q) }

-- what is due for a place was so from the start
pub sweep_due : {n e from append_last : ℕ} {starts moves : List ℕ} {New : List ℕ → Type 0} {t₀ t : List ℕ} {count₀ count at : ℕ} → SourcesThere n e starts count₀ append_last
    → Widened (stickers n) e New t₀ count₀ t count → from ≤ at → at < append_last → (s : List ℕ) → Due n starts moves e t at s → Sourced n starts moves e from append_last t₀ s
sweep_due {at = at} p w a b s d = record { at = at; low = a; high = b; due = due_back w p b d }

-- the places of a stage: one more, all of them
module _ {n e from append_last : ℕ} {starts moves t₀ : List ℕ} {count₀ : ℕ} {k : Classes} where
  pub sweep_more : {t t' index index' : List ℕ} {count count' at : ℕ} → SourcesThere n e starts count₀ append_last → from ≤ at → at < append_last
      → Going (stickers n) e (Sourced n starts moves e from append_last t₀) t₀ count₀ k (Swept n starts moves k e from at) t index count
      → Going (stickers n) e (Due n starts moves e t at) t count k (SourceVisited n starts moves k e at) t' index' count'
      → Going (stickers n) e (Sourced n starts moves e from append_last t₀) t₀ count₀ k (Swept n starts moves k e from (at + 1)) t' index' count'
  sweep_more {t} {t'} {count = count} {count'} {at} p low lt g h =
      let w = widen_as (sweep_due p g.widened low lt) h.widened in
      record {
        widened = widen_two g.widened w;
        tracking = h.tracking;
        done = up_to_lem (λ j. SourceVisited n starts moves k e j t' count') from at
            (λ j a b s d i. present_on w s (g.done j a b s (due_back w (placed_on g.widened.stayed.more p) (omega arith) d) i)) h.done;
      }

  -- a place at which it did not come to its end
  pub sweep_pass : {t t' index index' : List ℕ} {count at : ℕ} {h : Halt} → SourcesThere n e starts count₀ append_last → from ≤ at → at < append_last
      → Going (stickers n) e (Sourced n starts moves e from append_last t₀) t₀ count₀ k (Swept n starts moves k e from at) t index count
      → Stretched (stickers n) e (Due n starts moves e t at) t count k (SourceVisited n starts moves k e at) t' index' (Err h)
      → Stretched (stickers n) e (Sourced n starts moves e from append_last t₀) t₀ count₀ k (Swept n starts moves k e from append_last) t' index' (Err h)
  sweep_pass {at = at} p low lt g x =
      stretched_pass {Done = SourceVisited n starts moves k e at} g.widened (stretched_as (sweep_due p g.widened low lt) (λ c w d. d) x)

  pub sweep_all : {t index : List ℕ} {count at : ℕ} → append_last ≤ at
      → Going (stickers n) e (Sourced n starts moves e from append_last t₀) t₀ count₀ k (Swept n starts moves k e from at) t index count
      → Going (stickers n) e (Sourced n starts moves e from append_last t₀) t₀ count₀ k (Swept n starts moves k e from append_last) t index count
  sweep_all h g = record { widened = g.widened; tracking = g.tracking; done = λ at a b. g.done at a (omega arith) }

-- a pass at the same stage with `count` entries
pub pass_told : {n count : ℕ} {starts moves t t' index : List ℕ} {k : Classes} {r : Result ℕ Halt} (stage : Stage) {s : Stage} → s ≡ outgrown_stage stage count
    → SweepTold n starts moves s k t t' index r
    → Stretched (stickers n) stage.number (Source n starts moves stage t) t count k (Swept n starts moves k stage.number stage.from stage.last) t' index r
pass_told {n} {count} {starts} {moves} {t} {t'} {index} {k} {r} stage q w =
    subst
    (λ (x : Stage). Stretched (stickers n) x.number (Source n starts moves x t) t x.count k (Swept n starts moves k x.number x.from x.last) t' index r)
    q w

-- a level by classes: what is due of the classes below `low` is there
pub record Climbed (n : ℕ) (starts moves : List ℕ) (stage : Stage) (t₀ t : List ℕ) (count low : ℕ) : Type 0 where
  pub widened : Widened (stickers n) stage.number (Source n starts moves stage t₀) t₀ stage.count t count
  pub done : (s : List ℕ) → Source n starts moves stage t s → class_of s < low → Present (entry_key (stickers n) t) count s

module _ {n : ℕ} {starts moves t₀ : List ℕ} {stage : Stage} where
  module _ (p : SourcesThere n stage.number starts stage.count stage.last) {t : List ℕ} {count low : ℕ} (g : Climbed n starts moves stage t₀ t count low)
      {t' : List ℕ} {c : ℕ} (w : Widened (stickers n) stage.number (Source n starts moves stage t) t count t' c) where
    -- what is due now was due from the start, and what will be due is due now
    from_start : (s : List ℕ) → Source n starts moves stage t s → Source n starts moves stage t₀ s
    from_start s x = sweep_due p g.widened x.low x.high s x.due

    now_due : (s : List ℕ) → Source n starts moves stage t' s → Source n starts moves stage t s
    now_due s x = record { at = x.at; low = x.low; high = x.high; due = due_back w (placed_on g.widened.stayed.more p) x.high x.due }

    climb_widened : Widened (stickers n) stage.number (Source n starts moves stage t₀) t₀ stage.count t' c
    climb_widened = widen_two g.widened (widen_as from_start w)

    pub climb_crowded : Climbed n starts moves stage t₀ t' c low
    climb_crowded = record { widened = climb_widened; done = λ s x lt. present_on w s (g.done s (now_due s x) lt) }

    pub climb_more : (k : Classes) → k.low ≡ low → Swept n starts moves k stage.number stage.from stage.last t' c → Climbed n starts moves stage t₀ t' c k.high
    climb_more k q swept =
        record {
          widened = climb_widened;
          done = λ s x lt.
              less_cases (class_of s) low
              (λ below. present_on w s (g.done s (now_due s x) below))
              (λ ge. swept x.at x.low x.high s x.due (omega arith, lt));
        }

  pub levelled_to : {t : List ℕ} {count low : ℕ} → Climbed n starts moves stage t₀ t count low → classes ≤ low → Levelled n starts moves stage t₀ t (Some count)
  levelled_to g h = (g.widened, λ s x. g.done s x (omega (arith, class_most s)))

  pub levelled_over : {t t' : List ℕ} {count low : ℕ} → SourcesThere n stage.number starts stage.count stage.last → Climbed n starts moves stage t₀ t count low
      → Outgrown (stickers n) stage.number (Source n starts moves stage t) t count t' → Levelled n starts moves stage t₀ t' None
  levelled_over p g o = outgrown_on g.widened (outgrown_as (λ s x. sweep_due p g.widened x.low x.high s x.due) o)
