-- The search without the moves made so far in its answer, which demand 3 is shown of; and allowed lists, move by move.
use Prim.Native.Nat.{ℕ, zero, suc, ◌≤◌, ◌<◌, zero-le}
use mathlib.Core.Path.{◌≡◌, refl, sym, ap, ap₂, subst, ◌∙◌}
use mathlib.Core.Bool.{Bool, true, false, true≢false}
use mathlib.Core.List.{List, [], ◌∷◌, ◌++◌, append_assoc, append-nil, Memᴰ}
use native.Mathlib.Omega.{arith}
use lib.Dec.{eqb, ltb}
use lib.ListN.{length, get_or}
use borrow.Author.Tests.{eqb-true, eqb-false, ltb-true}
use Rattle.ground.specs.Choice.{pick, position}
use Rattle.ground.proofs.ChoiceLaws.{position_cases, position_head}
use Rattle.search_theory.specs.Search.{Reply, none, found, or_else, first_of, Task, bars, dfs, run_task, Allowed, Solves}
use Rattle.search_theory.proofs.SearchLaws.{never_found, unfound, picked, else_found, first_none, first_same, bars_snoc, tried}

-- an answer with a move in front of its list
unfoldable pub lead_by : ℕ → Reply → Reply
lead_by c none = none
lead_by c (found p) = found (c ∷ p)

pub lead_found : (c : ℕ) (r : Reply) {p : List ℕ} → lead_by c r ≡ found p → (q : List ℕ) × (r ≡ found q) × (p ≡ c ∷ q)
unfolding lead_by
lead_found c none e = never_found e
lead_found c (found q) e = (q, refl, sym (unfound e))

pub lead_none : (c : ℕ) (r : Reply) → lead_by c r ≡ none → r ≡ none
unfolding lead_by
lead_none c none e = refl
lead_none c (found q) e = never_found (sym e)

-- the argument that answers, and that none before it does
pub record FirstHit (f : ℕ → Reply) (cs : List ℕ) (p : List ℕ) : Type 0 where
  pub at : ℕ
  pub member : Memᴰ at cs
  pub hit : f at ≡ found p
  pub before : (a : ℕ) → position a cs < position at cs → f a ≡ none

pub first_found : (f : ℕ → Reply) (cs : List ℕ) {p : List ℕ} → first_of f cs ≡ found p → FirstHit f cs p
unfolding first_of
first_found f [] e = never_found e
first_found f (x ∷ cs) {p} e =
    else_found (f x) e
    (λ h. record { at = x; member = Memᴰ.head refl; hit = h; before = λ a lt. absurd (omega (arith, position_head x cs)) })
    (λ h g.
    let r = first_found f cs g in
    record { at = r.at; member = Memᴰ.tail r.member; hit = r.hit; before = λ a lt. later r h a lt })
  where
    later : (r : FirstHit f cs p) → f x ≡ none → (a : ℕ) → position a (x ∷ cs) < position r.at (x ∷ cs) → f a ≡ none
    later r miss a lt =
        position_cases a x cs (λ h z. ap f (sym h) ∙ miss)
        (λ ea. position_cases r.at x cs (λ h z. absurd (omega arith)) (λ ec. r.before a (omega arith)))

module _ (t : Task) where
  -- the moves left, the move before, if there is one, and a state
  unfoldable pub seek : ℕ → List ℕ → List ℕ → Reply
  seek zero l s = pick (eqb (t.number s) 0) (found []) none
  seek (suc k) l s =
      pick (eqb (t.number s) 0) (found [])
      (pick (ltb (suc k) (t.number s)) none
      (first_of (λ c. pick (bars t.barred l c) none (lead_by c (seek k (c ∷ []) (t.moved c s)))) t.candidates))

  -- what a visit with k + 1 moves left tries at a candidate
  abbrev pub sought : ℕ → List ℕ → List ℕ → ℕ → Reply
  sought k l s c = pick (bars t.barred l c) none (lead_by c (seek k (c ∷ []) (t.moved c s)))

  pub sought_none : (k : ℕ) (l s : List ℕ) (c : ℕ) → bars t.barred l c ≡ false → sought k l s c ≡ none → seek k (c ∷ []) (t.moved c s) ≡ none
  sought_none k l s c free e =
      picked (bars t.barred l c) e (λ b h. absurd (true≢false (sym b ∙ free))) (λ b h. lead_none c _ h)

  -- a list found with k + 1 moves left at a state that is no goal: a candidate before which none answers, and a list found from there
  pub record Way (k : ℕ) (l s p : List ℕ) : Type 0 where
    pub at : ℕ
    pub member : Memᴰ at t.candidates
    pub free : bars t.barred l at ≡ false
    pub rest : List ℕ
    pub down : seek k (at ∷ []) (t.moved at s) ≡ found rest
    pub is : p ≡ at ∷ rest
    pub before : (a : ℕ) → position a t.candidates < position at t.candidates → sought k l s a ≡ none

  way : {k : ℕ} {l s p : List ℕ} → FirstHit (sought k l s) t.candidates p → Way k l s p
  way {k} {l} {s} {p} r =
      picked (bars t.barred l r.at) r.hit (λ b h. never_found h)
      (λ b h.
      let w = lead_found r.at (seek k (r.at ∷ []) (t.moved r.at s)) h in
      record { at = r.at; member = r.member; free = b; rest = w.0; down = w.1; is = w.2; before = r.before })

  pub visited {ℓ} : {A : Type ℓ} {k : ℕ} {l s p : List ℕ} → seek (suc k) l s ≡ found p
      → (t.number s ≡ 0 → [] ≡ p → A) → (Way k l s p → A) → A
  unfolding seek
  visited {k = k} {l} {s} {p} e f g =
      picked (eqb (t.number s) 0) e (λ b h. f (eqb-true _ _ b) (unfound h))
      (λ b h. picked (ltb (suc k) (t.number s)) h (λ d i. never_found i) (λ d i. g (way (first_found (sought k l s) t.candidates i))))

  -- none at a state within its bound: no candidate leads to a list
  pub missed : (k : ℕ) (l s : List ℕ) → seek (suc k) l s ≡ none → t.number s ≤ suc k → {c : ℕ} → Memᴰ c t.candidates
      → sought k l s c ≡ none
  unfolding seek
  missed k l s e b m =
      picked (eqb (t.number s) 0) e (λ z h. never_found (sym h))
      (λ z h. picked (ltb (suc k) (t.number s)) h (λ d i. absurd (omega (arith, ltb-true (suc k) (t.number s) d)))
      (λ d i. first_none (sought k l s) t.candidates i m))

  -- and it is no goal
  pub no_goal : (k : ℕ) (l s : List ℕ) → seek k l s ≡ none → t.number s ≡ 0 → ⊥
  unfolding seek
  no_goal zero l s e g = picked (eqb (t.number s) 0) e (λ z h. never_found (sym h)) (λ z h. eqb-false _ _ z g)
  no_goal (suc k) l s e g = picked (eqb (t.number s) 0) e (λ z h. never_found (sym h)) (λ z h. eqb-false _ _ z g)

  -- a list that may follow a move: as `Allowed`, move by move
  abbrev pub Follows : List ℕ → List ℕ → Type 0
  Follows l [] = Unit {0}
  Follows l (c ∷ q) = Memᴰ c t.candidates × (bars t.barred l c ≡ false) × Follows (c ∷ []) q

  -- a list that may follow a move, and reaches a goal
  pub record Ends (l s q : List ℕ) : Type 0 where
    pub follows : Follows l q
    pub goal : t.number (run_task t q s) ≡ 0

  pub ends_next : {l s : List ℕ} {c : ℕ} {q : List ℕ} → Ends l s (c ∷ q) → Ends (c ∷ []) (t.moved c s) q
  unfolding run_task
  ends_next e = record { follows = e.follows.2; goal = e.goal }

  -- it stays so where no move stands before it
  pub freed : (l q : List ℕ) → Follows l q → Follows [] q
  unfolding bars
  freed l [] f = tt
  freed l (c ∷ q) f = (f.0, refl, f.2)

  follows_candidate : (l q : List ℕ) → Follows l q → (i : ℕ) → i < length q → Memᴰ (get_or q i 0) t.candidates
  follows_candidate l [] f i h = absurd (omega arith)
  follows_candidate l (c ∷ q) f zero h = f.0
  follows_candidate l (c ∷ q) f (suc i) h = follows_candidate (c ∷ []) q f.2 i (omega arith)

  follows_apart : (l q : List ℕ) → Follows l q → (i : ℕ) → suc i < length q → t.barred (get_or q i 0) (get_or q (suc i) 0) ≡ false
  unfolding bars
  follows_apart l [] f i h = absurd (omega arith)
  follows_apart l (c ∷ []) f i h = absurd (omega arith)
  follows_apart l (c ∷ d ∷ q) f zero h = f.2.1
  follows_apart l (c ∷ d ∷ q) f (suc i) h = follows_apart (c ∷ []) (d ∷ q) f.2 i (omega arith)

  pub follows_allowed : {q : List ℕ} → Follows [] q → Allowed t q
  follows_allowed {q} f = record { candidate = follows_candidate [] q f; apart = follows_apart [] q f }

  allowed_tail : (c : ℕ) (q : List ℕ) → Allowed t (c ∷ q) → Allowed t q
  allowed_tail c q a = record { candidate = λ i h. a.candidate (suc i) (omega arith); apart = λ i h. a.apart (suc i) (omega arith) }

  follows_from : (c : ℕ) (q : List ℕ) → Allowed t (c ∷ q) → Follows (c ∷ []) q
  unfolding bars
  follows_from c [] a = tt
  follows_from c (d ∷ q) a = (a.candidate 1 (omega arith), a.apart 0 (omega arith), follows_from d q (allowed_tail c (d ∷ q) a))

  pub allowed_follows : (q : List ℕ) → Allowed t q → Follows [] q
  unfolding bars
  allowed_follows [] a = tt
  allowed_follows (c ∷ q) a = (a.candidate 0 (omega arith), refl, follows_from c q a)

  pub solves_ends : {s q : List ℕ} → Solves t s q → Ends [] s q
  solves_ends {s} {q} a = record { follows = allowed_follows q a.allowed; goal = a.goal }

  pub ends_solves : {l s q : List ℕ} → Ends l s q → Solves t s q
  ends_solves {l} {s} {q} e = record { allowed = follows_allowed (freed l q e.follows); goal = e.goal }

  -- what is found may follow, reaches a goal, and is within the moves left
  pub record Sound (k : ℕ) (l s p : List ℕ) : Type 0 where
    pub ends : Ends l s p
    pub within : length p ≤ k

  sound_goal : {k : ℕ} {l s p : List ℕ} → t.number s ≡ 0 → [] ≡ p → Sound k l s p
  unfolding run_task
  sound_goal {k} {l} {s} g h = subst (Sound k l s) h (record { ends = record { follows = tt; goal = g }; within = zero-le })

  pub sound : (k : ℕ) {l s p : List ℕ} → seek k l s ≡ found p → Sound k l s p
  unfolding seek run_task
  sound zero {l} {s} {p} e = picked (eqb (t.number s) 0) e (λ b h. sound_goal (eqb-true _ _ b) (unfound h)) (λ b h. never_found h)
  sound (suc k) {l} {s} {p} e = visited e sound_goal (λ y. there y (sound k y.down))
    where
      there : (y : Way k l s p) → Sound k (y.at ∷ []) (t.moved y.at s) y.rest → Sound (suc k) l s p
      there y r =
          subst (Sound (suc k) l s) (sym y.is)
          (record { ends = record { follows = (y.member, y.free, r.ends.follows); goal = r.ends.goal }; within = omega (arith, r.within) })

-- an answer behind the moves made
unfoldable pub after_made : List ℕ → Reply → Reply
after_made path none = none
after_made path (found q) = found (path ++ q)

after_or : (path : List ℕ) (a b : Reply) → after_made path (or_else a b) ≡ or_else (after_made path a) (after_made path b)
unfolding after_made or_else
after_or path none b = refl
after_or path (found q) b = refl

after_lead : (path : List ℕ) (c : ℕ) (r : Reply) → after_made path (lead_by c r) ≡ after_made (path ++ (c ∷ [])) r
unfolding after_made lead_by
after_lead path c none = refl
after_lead path c (found q) = ap found (sym (append_assoc path (c ∷ []) q))

first_after : (path : List ℕ) (f g : ℕ → Reply) → ((c : ℕ) → f c ≡ after_made path (g c)) → (cs : List ℕ) → first_of f cs ≡ after_made path (first_of g cs)
unfolding first_of after_made
first_after path f g h [] = refl
first_after path f g h (c ∷ cs) = ap₂ or_else (h c) (first_after path f g h cs) ∙ sym (after_or path (g c) (first_of g cs))

module _ (t : Task) where
  -- of the moves made only the last counts
  seek_last : (k : ℕ) (path : List ℕ) (a : ℕ) (s : List ℕ) → seek t k (path ++ (a ∷ [])) s ≡ seek t k (a ∷ []) s
  unfolding seek bars
  seek_last zero path a s = refl
  seek_last (suc k) path a s =
      ap (λ r. pick (eqb (t.number s) 0) (found []) (pick (ltb (suc k) (t.number s)) none r))
      (first_same (sought t k (path ++ (a ∷ [])) s) (sought t k (a ∷ []) s) t.candidates
      (λ c m. ap (λ b. pick b none (lead_by c (seek t k (c ∷ []) (t.moved c s)))) (bars_snoc t.barred path a c)))

  pub dfs-seek : (k : ℕ) (path s : List ℕ) → dfs t k path s ≡ after_made path (seek t k path s)
  unfolding dfs seek after_made
  dfs-seek zero path s = goal (eqb (t.number s) 0)
    where
      goal : (b : Bool) → pick b (found path) none ≡ after_made path (pick b (found []) none)
      goal true = ap found (sym (append-nil path))
      goal false = refl
  dfs-seek (suc k) path s =
      go (first_of (sought t k path s) t.candidates) (eqb (t.number s) 0) (ltb (suc k) (t.number s))
      (first_after path (tried t k path s) (sought t k path s) (λ c. step c (bars t.barred path c) (dfs-seek k (path ++ (c ∷ [])) (t.moved c s))) t.candidates)
    where
      step : (c : ℕ) (b : Bool) → dfs t k (path ++ (c ∷ [])) (t.moved c s) ≡ after_made (path ++ (c ∷ [])) (seek t k (path ++ (c ∷ [])) (t.moved c s))
          → pick b none (dfs t k (path ++ (c ∷ [])) (t.moved c s)) ≡ after_made path (pick b none (lead_by c (seek t k (c ∷ []) (t.moved c s))))
      step c true e = refl
      step c false e = e ∙ ap (after_made (path ++ (c ∷ []))) (seek_last k path c (t.moved c s)) ∙ sym (after_lead path c (seek t k (c ∷ []) (t.moved c s)))

      go : {x : Reply} (y : Reply) (b d : Bool) → x ≡ after_made path y
          → pick b (found path) (pick d none x) ≡ after_made path (pick b (found []) (pick d none y))
      go y true d e = ap found (sym (append-nil path))
      go y false true e = refl
      go y false false e = e

  -- with no move made the answers are the same
  pub dfs_start : (k : ℕ) (s : List ℕ) → dfs t k [] s ≡ seek t k [] s
  unfolding after_made
  dfs_start k s = dfs-seek k [] s ∙ same (seek t k [] s)
    where
      same : (r : Reply) → after_made [] r ≡ r
      same none = refl
      same (found q) = refl
