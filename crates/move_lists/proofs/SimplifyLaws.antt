-- Laws of simplifying: nothing joins in the result, a list in which nothing joins stays, and a joining anywhere changes nothing;
-- and the stack in which the code simplifies.
use Prim.Native.Nat.{ℕ, suc, ◌+◌, ◌-◌, ◌%◌, ◌<◌, ◌≤◌}
use mathlib.Core.Path.{◌≡◌, refl, sym, ap, subst, ◌∙◌}
use mathlib.Core.Bool.{true, false}
use mathlib.Core.List.{List, [], ◌∷◌, ◌++◌, append_assoc, append-nil}
use native.Mathlib.Omega.{arith}
use native.Mathlib.Numerals.{add-one}
use lib.ListN.{length, get_or, take, drop, set, take-append-drop, drop_of_length-le}
use lib.Seq.{take-suc, take-suc-set, drop-set-lt, drop-drop, drop-cons}
use lib.Dec.{eqb}
use borrow.Author.Tests.{eq-eqb, ne_eqb, eqb-true, eqb-false}
use Rattle.ground.specs.Choice.{pick}
use Rattle.ground.proofs.ChoiceLaws.{bool_cases}
use Rattle.generic_cube.specs.declared.Move.{Move}
use Rattle.generic_cube.specs.Code.{move_of, code_of, with_turn, turned_to, joins}
use Rattle.generic_cube.proofs.CodeLaws.{move_eq, code_move, turn_most, move-turned, joins_same, same_joins}
use Rattle.move_lists.specs.Lists.{turn_sum, joined, join, push, simplify, Apart, Reduced, Turned, Step, here, there}
use Rattle.move_lists.specs.Inner.{Pushable, Pushed, Shrunk}

-- ---- kind and width, without the turn

abbrev pub slot : ℕ → Move
slot c = with_turn (move_of c) 0

joins-slot : (c d : ℕ) → joins c d ≡ true → slot c ≡ slot d
joins-slot c d e = let s = joins_same c d e in move_eq _ _ s.0 s.1 refl

slot-joins : (c d : ℕ) → slot c ≡ slot d → joins c d ≡ true
slot-joins c d e = same_joins c d (ap (λ (m : Move). m.kind) e) (ap (λ (m : Move). m.width) e)

-- codes of one slot join with the same codes
joins_by : (c d x : ℕ) → slot c ≡ slot d → joins c x ≡ joins d x
unfolding joins
joins_by c d x e = rw (ap (λ (m : Move). m.kind) e, ap (λ (m : Move). m.width) e)

joins_to : (x c d : ℕ) → slot c ≡ slot d → joins x c ≡ joins x d
unfolding joins
joins_to x c d e = rw (ap (λ (m : Move). m.kind) e, ap (λ (m : Move). m.width) e)

-- a code is its slot and its turn
code_eq : (c d : ℕ) → slot c ≡ slot d → (move_of c).turn ≡ (move_of d).turn → c ≡ d
code_eq c d e t =
    sym (code_move c) ∙ ap code_of (move_eq (move_of c) (move_of d) (ap (λ (m : Move). m.kind) e) (ap (λ (m : Move). m.width) e) t) ∙ code_move d

-- another turn of a code
turned-slot : (c t : ℕ) → t ≤ 3 → slot (turned_to c t) ≡ slot c
turned-slot c t h = ap (λ (m : Move). with_turn m 0) (move-turned c t h)

turned_turn : (c t : ℕ) → t ≤ 3 → (move_of (turned_to c t)).turn ≡ t
turned_turn c t h = ap (λ (m : Move). m.turn) (move-turned c t h)

turned_same : (c d t : ℕ) → slot c ≡ slot d → turned_to c t ≡ turned_to d t
unfolding turned_to
turned_same c d t e = ap (λ (m : Move). code_of (with_turn m t)) e

turned_code : (c d : ℕ) → slot c ≡ slot d → turned_to c (move_of d).turn ≡ d
turned_code c d e = code_eq _ d (turned-slot c (move_of d).turn (turn_most d) ∙ e) (turned_turn c (move_of d).turn (turn_most d))

joined-slot : (c d : ℕ) → slot (joined c d) ≡ slot c
joined-slot c d = turned-slot c (turn_sum c d) (omega arith)

joined_turn : (c d : ℕ) → (move_of (joined c d)).turn ≡ turn_sum c d
joined_turn c d = turned_turn c (turn_sum c d) (omega arith)

-- ---- what a push does, by cases

push_same : (c x : ℕ) (xs : List ℕ) → slot c ≡ slot x → push c (x ∷ xs) ≡ join c x xs
unfolding push
push_same c x xs h = rw (slot-joins c x h)

pub push_apart : (c : ℕ) (xs : List ℕ) → Apart c xs → push c xs ≡ c ∷ xs
unfolding push
push_apart c [] h = refl
push_apart c (x ∷ xs) h = rw h

pub join_vanish : (c d : ℕ) (rest : List ℕ) → turn_sum c d ≡ 0 → join c d rest ≡ rest
join_vanish c d rest h = simp (eq-eqb _ _ h)

pub join_stay : (c d : ℕ) (rest : List ℕ) → (turn_sum c d ≡ 0 → ⊥) → join c d rest ≡ joined c d ∷ rest
join_stay c d rest h = simp (ne_eqb _ _ h)

apart_slot : (c d : ℕ) (xs : List ℕ) → slot c ≡ slot d → Apart d xs → Apart c xs
apart_slot c d [] e h = tt
apart_slot c d (x ∷ xs) e h = joins_by c d x e ∙ h

-- ---- nothing joins in the result

join_reduced : (c x : ℕ) (xs : List ℕ) → slot c ≡ slot x → Reduced (x ∷ xs) → Reduced (join c x xs)
join_reduced c x xs e h =
    bool_cases (eqb (turn_sum c x) 0)
    (λ t. rw t h.1)
    (λ t. rw t (apart_slot (joined c x) x xs (joined-slot c x ∙ e) h.0, h.1))

pub push_reduced : (c : ℕ) (xs : List ℕ) → Reduced xs → Reduced (push c xs)
unfolding push
push_reduced c [] h = (tt, tt)
push_reduced c (x ∷ xs) h =
    bool_cases (joins c x)
    (λ t. rw t (join_reduced c x xs (joins-slot c x t) h))
    (λ t. rw t (t, h))

pub simplify_reduced : (cs : List ℕ) → Reduced (simplify cs)
unfolding simplify
simplify_reduced [] = tt
simplify_reduced (c ∷ cs) = push_reduced c (simplify cs) (simplify_reduced cs)

-- ---- a list in which nothing joins stays

pub simplify_fixed : (cs : List ℕ) → Reduced cs → simplify cs ≡ cs
unfolding simplify
simplify_fixed [] h = refl
simplify_fixed (c ∷ cs) h = ap (push c) (simplify_fixed cs h.1) ∙ push_apart c cs h.0

-- ---- turns stay other than 0

join-turned : (c x : ℕ) (xs : List ℕ) → Turned xs → Turned (join c x xs)
join-turned c x xs h =
    bool_cases (eqb (turn_sum c x) 0)
    (λ t. rw t h)
    (λ t. rw t (let q = eqb-false (turn_sum c x) 0 t in let r = joined_turn c x in omega arith, h))

pub push-turned : (c : ℕ) (xs : List ℕ) → 0 < (move_of c).turn → Turned xs → Turned (push c xs)
unfolding push
push-turned c [] p h = (p, tt)
push-turned c (x ∷ xs) p h =
    bool_cases (joins c x)
    (λ t. rw t (join-turned c x xs h.1))
    (λ t. rw t (p, h))

pub simplify-turned : (cs : List ℕ) → Turned cs → Turned (simplify cs)
unfolding simplify
simplify-turned [] h = tt
simplify-turned (c ∷ cs) h = push-turned c (simplify cs) h.0 (simplify-turned cs h.1)

-- ---- joining two neighbours first changes nothing

-- a turn of c's slot in front of a list: nothing for 0
abbrev turning : ℕ → ℕ → List ℕ → List ℕ
turning c t xs = pick (eqb t 0) xs (turned_to c t ∷ xs)

-- a push adds to the turn in front
push-turning : (c d t : ℕ) (xs : List ℕ) → slot d ≡ slot c → t ≤ 3 → 0 < (move_of d).turn → Apart c xs
    → push d (turning c t xs) ≡ turning c (((move_of d).turn + t) % 4) xs
push-turning c d t xs e h p a =
    bool_cases (eqb t 0)
    (λ z.
    let y = eqb-true t 0 z in
    let m : ((move_of d).turn + t) % 4 ≡ (move_of d).turn = omega (arith, turn_most d) in
    rw (z, m, ne_eqb (move_of d).turn 0 (omega arith)) (push_apart d xs (apart_slot d c xs e a) ∙ ap (λ (x : ℕ). x ∷ xs) (sym (turned_code c d (sym e)))))
    (λ z.
    let m : turn_sum d (turned_to c t) ≡ ((move_of d).turn + t) % 4 = ap (λ (u : ℕ). ((move_of d).turn + u) % 4) (turned_turn c t h) in
    rw z (push_same d (turned_to c t) xs (e ∙ sym (turned-slot c t h)) ∙ rw (m, turned_same d c (((move_of d).turn + t) % 4) e)))

-- every list in which nothing joins is a turn of c's slot in front of one that c doesn't join
record InFront (c : ℕ) (xs : List ℕ) : Type 0 where
  pub turn : ℕ
  pub rest : List ℕ
  pub most : turn ≤ 3
  pub apart : Apart c rest
  pub is : xs ≡ turning c turn rest

in_front : (c : ℕ) (xs : List ℕ) → Reduced xs → Turned xs → InFront c xs
in_front c [] r t = record { turn = 0; rest = []; most = omega arith; apart = tt; is = refl }
in_front c (x ∷ xs) r t =
    bool_cases (joins c x)
    (λ j.
    let e = joins-slot c x j in
    let z = ne_eqb (move_of x).turn 0 (omega (arith, t.0)) in
    record {
      turn = (move_of x).turn;
      rest = xs;
      most = turn_most x;
      apart = apart_slot c x xs e r.0;
      is = rw z (ap (λ (y : ℕ). y ∷ xs) (sym (turned_code c x e)));
    })
    (λ j. record { turn = 0; rest = x ∷ xs; most = omega arith; apart = j; is = refl })

-- `join c d` in front of what is simplified
abbrev push_join : ℕ → ℕ → List ℕ → List ℕ
push_join c d xs = pick (eqb (turn_sum c d) 0) xs (push (joined c d) xs)

push-push : (c d : ℕ) → slot c ≡ slot d → 0 < (move_of c).turn → 0 < (move_of d).turn → (xs : List ℕ) → Reduced xs → Turned xs
    → push c (push d xs) ≡ push_join c d xs
push-push c d e pc pd xs r t =
    let v = in_front c xs r t in
    let u : ℕ = v.turn in
    let h : u ≤ 3 = v.most in
    ap (λ (l : List ℕ). push c (push d l)) v.is
    ∙ ap (push c) (push-turning c d u v.rest (sym e) h pd v.apart)
    ∙ push-turning c c (((move_of d).turn + u) % 4) v.rest refl (omega arith) pc v.apart
    ∙ bool_cases (eqb (turn_sum c d) 0)
    (λ z.
    let y = eqb-true (turn_sum c d) 0 z in
    let m : ((move_of c).turn + ((move_of d).turn + u) % 4) % 4 ≡ u = omega arith in
    rw z (ap (λ (k : ℕ). turning c k v.rest) m ∙ sym v.is))
    (λ z.
    let y = eqb-false (turn_sum c d) 0 z in
    let q = joined_turn c d in
    let m : ((move_of c).turn + ((move_of d).turn + u) % 4) % 4 ≡ ((move_of (joined c d)).turn + u) % 4 = omega arith in
    rw z (ap (λ (k : ℕ). turning c k v.rest) m
    ∙ sym (ap (push (joined c d)) v.is ∙ push-turning c (joined c d) u v.rest (joined-slot c d) h (omega arith) v.apart)))

-- ---- any order of joining gives the same

pub step_turned : (xs ys : List ℕ) → Step xs ys → Turned xs → Turned ys
step_turned xs ys (here c d rest e) h = join-turned c d rest h.1.1
step_turned xs ys (there c {xs = xs'} {ys = ys'} s) h = (h.0, step_turned xs' ys' s h.1)

join-simplify : (c d : ℕ) (rest : List ℕ) → simplify (join c d rest) ≡ push_join c d (simplify rest)
unfolding simplify
join-simplify c d rest = bool_cases (eqb (turn_sum c d) 0) (λ t. rw t) (λ t. rw t)

pub step_simplify : (xs ys : List ℕ) → Step xs ys → Turned xs → simplify xs ≡ simplify ys
unfolding simplify
step_simplify xs ys (here c d rest e) h =
    push-push c d (joins-slot c d e) h.0 h.1.0 (simplify rest) (simplify_reduced rest) (simplify-turned rest h.1.1)
    ∙ sym (join-simplify c d rest)
step_simplify xs ys (there c {xs = xs'} {ys = ys'} s) h = ap (push c) (step_simplify xs' ys' s h.1)

-- ---- the last of a list in which nothing joins

reduced_snoc : (p : List ℕ) (t c : ℕ) → Reduced (p ++ t ∷ []) → joins t c ≡ false → Reduced (p ++ t ∷ [] ++ c ∷ [])
reduced_snoc [] t c r h = (h, (tt, tt))
reduced_snoc (a ∷ []) t c r h = (r.0, (h, (tt, tt)))
reduced_snoc (a ∷ b ∷ p) t c r h = (r.0, reduced_snoc (b ∷ p) t c r.1 h)

reduced_init : (p : List ℕ) (t : ℕ) → Reduced (p ++ t ∷ []) → Reduced p
reduced_init [] t r = tt
reduced_init (a ∷ []) t r = (tt, tt)
reduced_init (a ∷ b ∷ p) t r = (r.0, reduced_init (b ∷ p) t r.1)

reduced_last : (p : List ℕ) (t j : ℕ) → slot j ≡ slot t → Reduced (p ++ t ∷ []) → Reduced (p ++ j ∷ [])
reduced_last [] t j e r = (tt, tt)
reduced_last (a ∷ []) t j e r = (joins_to a j t e ∙ r.0, (tt, tt))
reduced_last (a ∷ b ∷ p) t j e r = (r.0, reduced_last (b ∷ p) t j e r.1)

turned-append : (p q : List ℕ) → Turned p → Turned q → Turned (p ++ q)
turned-append [] q h k = k
turned-append (a ∷ p) q h k = (h.0, turned-append p q h.1 k)

turned_left : (p q : List ℕ) → Turned (p ++ q) → Turned p
turned_left [] q h = tt
turned_left (a ∷ p) q h = (h.0, turned_left p q h.1)

turned_right : (p q : List ℕ) → Turned (p ++ q) → Turned q
turned_right [] q h = h
turned_right (a ∷ p) q h = turned_right p q h.1

pub turned-drop : (i : ℕ) (cs : List ℕ) → Turned cs → Turned (drop i cs)
turned-drop i cs h = turned_right (take i cs) (drop i cs) (rw (take-append-drop i cs) h)

step_under : (p : List ℕ) (xs ys : List ℕ) → Step xs ys → Step (p ++ xs) (p ++ ys)
step_under [] xs ys s = s
step_under (a ∷ p) xs ys s = there a (step_under p xs ys s)

-- the stack's top
take-top : (out : List ℕ) (k : ℕ) → (k ≡ 0 → ⊥) → k < length out → take k out ≡ take (k - 1) out ++ get_or out (k - 1) 0 ∷ []
take-top out k z h =
    let e : k ≡ suc (k - 1) = omega arith in
    ap (λ (n : ℕ). take n out) e ∙ take-suc out (k - 1) 0 (omega arith)

take-set-top : (out : List ℕ) (k j : ℕ) → (k ≡ 0 → ⊥) → k < length out → take k (set out (k - 1) j) ≡ take (k - 1) out ++ j ∷ []
take-set-top out k j z h =
    let e : k ≡ suc (k - 1) = omega arith in
    ap (λ (n : ℕ). take n (set out (k - 1) j)) e ∙ take-suc-set out (k - 1) j (omega arith)

module _ {out : List ℕ} {k c : ℕ} (a : Pushable out k c) where
  -- c stands on top
  pushed_more : Reduced (take k out ++ c ∷ []) → Pushed out k c (set out k c) (k + 1)
  pushed_more q =
      let e : take (k + 1) (set out k c) ≡ take k out ++ c ∷ [] = rw add-one (take-suc-set out k c a.room) in
      record {
        within = omega arith;
        reduced = rw e q;
        turned = rw e (turned-append (take k out) (c ∷ []) a.turned (a.some, tt));
        same = λ rest u. rw (e, append_assoc);
        kept = drop-set-lt (k + 1) out k c (omega arith);
      }

  pub pushed_first : k ≡ 0 → Pushed out k c (set out k c) (k + 1)
  pushed_first z = pushed_more (rw z (tt, tt))

  module _ (z : k ≡ 0 → ⊥) where
    pub pushed_other : joins (get_or out (k - 1) 0) c ≡ false → Pushed out k c (set out k c) (k + 1)
    pushed_other n =
        let e = take-top out k z a.room in
        pushed_more (rw e (reduced_snoc (take (k - 1) out) (get_or out (k - 1) 0) c (rw e at a.reduced) n))

    -- what joining the top with c is to the simplifier
    merged : joins (get_or out (k - 1) 0) c ≡ true → (rest : List ℕ) → Turned rest
        → simplify (take (k - 1) out ++ join (get_or out (k - 1) 0) c rest) ≡ simplify (take k out ++ c ∷ rest)
    merged s rest u =
        let e = take-top out k z a.room in
        let d : take k out ++ c ∷ rest ≡ take (k - 1) out ++ get_or out (k - 1) 0 ∷ c ∷ rest = rw (e, append_assoc) in
        let w : Turned (take (k - 1) out ++ get_or out (k - 1) 0 ∷ c ∷ rest) = rw d at (turned-append (take k out) (c ∷ rest) a.turned (a.some, u)) in
        sym (ap simplify d ∙ step_simplify (take (k - 1) out ++ get_or out (k - 1) 0 ∷ c ∷ rest) (take (k - 1) out ++ join (get_or out (k - 1) 0) c rest)
        (step_under (take (k - 1) out) _ _ (here (get_or out (k - 1) 0) c rest s)) w)

    pub pushed_gone : joins (get_or out (k - 1) 0) c ≡ true → turn_sum (get_or out (k - 1) 0) c ≡ 0 → Pushed out k c out (k - 1)
    pushed_gone s v =
        let e = take-top out k z a.room in
        record {
          within = omega arith;
          reduced = reduced_init (take (k - 1) out) (get_or out (k - 1) 0) (rw e at a.reduced);
          turned = turned_left (take (k - 1) out) (get_or out (k - 1) 0 ∷ []) (rw e at a.turned);
          same = λ rest u. rw (join_vanish (get_or out (k - 1) 0) c rest v) at (merged s rest u);
          kept = refl;
        }

    top-joined : joins (get_or out (k - 1) 0) c ≡ true → (turn_sum (get_or out (k - 1) 0) c ≡ 0 → ⊥)
        → Pushed out k c (set out (k - 1) (joined (get_or out (k - 1) 0) c)) k
    top-joined s v =
        let top = get_or out (k - 1) 0 in
        let e = take-top out k z a.room in
        let g = take-set-top out k (joined top c) z a.room in
        let q = joined_turn top c in
        record {
          within = omega arith;
          reduced = rw g (reduced_last (take (k - 1) out) top (joined top c) (joined-slot top c) (rw e at a.reduced));
          turned = rw g (turned-append (take (k - 1) out) (joined top c ∷ []) (turned_left (take (k - 1) out) (top ∷ []) (rw e at a.turned)) (rw q (omega arith), tt));
          same = λ rest u. rw (g, append_assoc) (rw (join_stay top c rest v) at (merged s rest u));
          kept = drop-set-lt (k + 1) out (k - 1) (joined top c) (omega arith);
        }

    pub pushed_joined : {j : ℕ} → joins (get_or out (k - 1) 0) c ≡ true → (turn_sum (get_or out (k - 1) 0) c ≡ 0 → ⊥)
        → j ≡ joined (get_or out (k - 1) 0) c → Pushed out k c (set out (k - 1) j) k
    pushed_joined s v i = subst (λ (x : ℕ). Pushed out k c (set out (k - 1) x) k) (sym i) (top-joined s v)

-- ---- the loop

drop_further : (a b : List ℕ) (m n : ℕ) → m ≤ n → drop m a ≡ drop m b → drop n a ≡ drop n b
drop_further a b m n h q =
    let e : m + (n - m) ≡ n = omega arith in
    sym (drop-drop (n - m) m a ∙ ap (λ (j : ℕ). drop j a) e) ∙ ap (drop (n - m)) q ∙ drop-drop (n - m) m b ∙ ap (λ (j : ℕ). drop j b) e

-- the first i codes of the list are on the stack, the first k of `out`
pub record Stacked (list out₀ out : List ℕ) (k i : ℕ) : Type 0 where
  pub below : k ≤ i
  pub within : i ≤ length list
  pub long : length out ≡ length out₀
  pub reduced : Reduced (take k out)
  pub turned : Turned (take k out)
  pub same : simplify (take k out ++ drop i list) ≡ simplify list
  pub kept : drop i out ≡ drop i out₀

pub stack_none : {list out : List ℕ} → Stacked list out out 0 0
stack_none = record { below = omega arith; within = omega arith; long = refl; reduced = tt; turned = tt; same = refl; kept = refl }

module _ {list out₀ out : List ℕ} {k i : ℕ} (s : Stacked list out₀ out k i) where
  pub stack_asks : length list ≤ length out₀ → Turned list → i < length list → Pushable out k (get_or list i 0)
  stack_asks f t h =
      record {
        room = let l = s.long in omega arith;
        reduced = s.reduced;
        turned = s.turned;
        some = (rw (drop-cons list i 0 h) at (turned-drop i list t)).0;
      }

  pub stack_more : {new : List ℕ} {r : ℕ} → Turned list → i < length list → length new ≡ length out
      → Pushed out k (get_or list i 0) new r → Stacked list out₀ new r (i + 1)
  stack_more {new} {r} t h l p =
      let d : drop i list ≡ get_or list i 0 ∷ drop (i + 1) list = rw add-one (drop-cons list i 0 h) in
      record {
        below = omega arith;
        within = omega arith;
        long = l ∙ s.long;
        reduced = p.reduced;
        turned = p.turned;
        same = p.same (drop (i + 1) list) (turned-drop (i + 1) list t)
            ∙ ap (λ (x : List ℕ). simplify (take k out ++ x)) (sym d) ∙ s.same;
        kept = drop_further new out (k + 1) (i + 1) (omega arith) p.kept ∙ drop_further out out₀ i (i + 1) (omega arith) s.kept;
      }

  pub stack_all : length list ≤ i → Shrunk list out₀ out k
  stack_all h =
      let e : i ≡ length list = omega arith in
      let q : simplify (take k out) ≡ simplify list = rw (drop_of_length-le list h, append-nil) at s.same in
      record { top = sym (simplify_fixed (take k out) s.reduced) ∙ q; most = omega arith; kept = rw e at s.kept }
