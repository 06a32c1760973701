-- Laws of lists that are counted no further than a cap and stored where there is room.
use Prim.Native.Nat.{ℕ, zero, suc, ◌+◌, ◌-◌, ◌≤◌, ◌<◌, min}
use mathlib.Core.Path.{◌≡◌, refl, sym, ap, subst, ◌∙◌}
use mathlib.Core.List.{List, [], ◌∷◌, ◌++◌, append_assoc, append-nil}
use native.Mathlib.Omega.{arith}
use lib.ListN.{length, get_or, take, drop, set, length-append, length-drop, length-set}
use lib.Seq.{sets, sets-eq, length-take-le, take-take, take_at, drop_at, take-set-le, get_or-take, get_or-drop}
use Rattle.ground.proofs.PutLaws.{Looped, loop_none, loop_more, loop_all, put_one, each_self, sets-append, sets-front}
use Rattle.ground.proofs.ListLaws.{part_front}
use Rattle.generic_cube.specs.Code.{move_of}
use Rattle.move_lists.specs.Lists.{Turned, inverse_of, inverse}
use Rattle.move_lists.proofs.ListLaws.{length-inverse, inverse-next}
use Rattle.algorithm_parser.specs.Algorithm.{copies}
use Rattle.algorithm_parser.specs.Inner.{Filled, Placed, Behind, Standing, Appended, Transferred}

-- ---- one list after another

pub fill_none : {cap : ℕ} {out : List ℕ} {j : ℕ} → j ≤ cap → Filled cap out j [] out j
fill_none h = record { next = omega arith; stored = λ r. refl; before = refl; long = refl }

pub fill_then : {cap : ℕ} {out mid new vs ws : List ℕ} {j r s : ℕ} → Placed cap out j → Filled cap out j vs mid r → Filled cap mid r ws new s
    → Filled cap out j (vs ++ ws) new s
fill_then {cap} {out} {mid} {new} {vs} {ws} {j} {r} {s} p f g =
    let n = f.next in
    let m = g.next in
    let l = f.long in
    let w = length-append vs ws in
    let most = p.most in
    let short = p.short in
    record {
      next = omega arith;
      stored = λ h.
          let e : r ≡ j + length vs = omega arith in
          g.stored (omega arith) ∙ ap (λ (o : List ℕ). sets o r ws) (f.stored (omega arith)) ∙ ap (λ (i : ℕ). sets (sets out j vs) i ws) e
          ∙ sym (sets-append vs ws out j);
      before = sym (take-take j r new (omega arith)) ∙ ap (take j) g.before ∙ take-take j r mid (omega arith) ∙ f.before;
      long = g.long ∙ l;
    }

pub fill_placed : {cap : ℕ} {out new vs : List ℕ} {j r : ℕ} → Placed cap out j → Filled cap out j vs new r → Placed cap new r
fill_placed p f = record { most = omega (arith, f.next); short = omega (arith, f.long, p.short) }

-- ---- a list that stands

pub stands_filled : {cap : ℕ} {out new vs : List ℕ} {j r : ℕ} → Filled cap out j vs new r → Standing cap new j r vs
stands_filled {cap} {out} {new} {vs} {j} {r} f =
    record {
      ends = f.next;
      held = λ h.
          let l = f.long in
          let fits : j + length vs ≤ length out = omega arith in
          let head : length (take j out) ≡ j = length-take-le j out (omega arith) in
          let is : new ≡ take j out ++ (vs ++ drop (j + length vs) out) = f.stored fits ∙ sets-eq vs out j fits ∙ append_assoc (take j out) vs (drop (j + length vs) out) in
          ap (λ (o : List ℕ). take (length vs) (drop j o)) is
          ∙ ap (take (length vs)) (drop_at (take j out) (vs ++ drop (j + length vs) out) j head)
          ∙ take_at vs (drop (j + length vs) out) (length vs) refl;
    }

-- what is written behind a list leaves it standing
pub stands_before : {cap : ℕ} {out new vs : List ℕ} {j mid to : ℕ} → length out < cap → mid ≤ to → take to new ≡ take to out → length new ≡ length out
    → Standing cap out j mid vs → Standing cap new j mid vs
stands_before {cap} {out} {new} {vs} {j} {mid} {to} short h b l s =
    let e = s.ends in
    record {
      ends = e;
      held = λ r.
          let m : mid ≡ j + length vs = omega arith in
          let front : take mid new ≡ take mid out = sym (take-take mid to new h) ∙ ap (take mid) b ∙ take-take mid to out h in
          part_front new j (length vs) mid (omega arith) (omega arith)
          ∙ ap (λ (o : List ℕ). take (length vs) (drop j o)) front
          ∙ sym (part_front out j (length vs) mid (omega arith) (omega arith))
          ∙ s.held (omega arith);
    }

-- ---- a part that is put once more behind itself, as it is or inverted

module _ {cap : ℕ} (wrap : List ℕ → List ℕ) (same : (vs : List ℕ) → length (wrap vs) ≡ length vs) {out : List ℕ} {j mid to : ℕ} (b : Behind cap out j mid to)
    {r : ℕ} (n : r ≡ min (to + (mid - j)) cap) where
  -- the place behind it is the list's
  append-next : (vs : List ℕ) → Standing cap out j mid vs → r ≡ min (to + length (wrap vs)) cap
  append-next vs s =
      let e = s.ends in
      let l = same vs in
      let x = b.some in
      let y = b.after in
      let z = b.placed.most in
      omega arith

  pub append_out : length out < r → Appended cap wrap out j mid to out r
  append_out h =
      record {
        from = omega (arith, b.placed.most);
        most = omega arith;
        before = refl;
        filled = λ vs t s. record { next = append-next vs s; stored = λ w. absurd (omega (arith, append-next vs s, b.placed.short)); before = refl; long = refl };
      }

  pub append_in : {new : List ℕ} → r ≤ length out → length new ≡ length out → Transferred wrap out j to (mid - j) new → Appended cap wrap out j mid to new r
  append_in {new} h l m =
      record {
        from = omega (arith, b.placed.most);
        most = omega arith;
        before = m.before;
        filled = λ vs t s.
            let e = s.ends in
            let x = b.some in
            let y = b.after in
            let z = b.placed.short in
            let v = same vs in
            let q : mid - j ≡ length vs = omega (arith, append-next vs s) in
            let is : take (mid - j) (drop j out) ≡ vs = ap (λ (k : ℕ). take k (drop j out)) q ∙ s.held (omega (arith, append-next vs s)) in
            record {
              next = append-next vs s;
              stored = λ w. m.stored (subst Turned (sym is) t) ∙ ap (λ (c : List ℕ). sets out to (wrap c)) is;
              before = m.before;
              long = l;
            };
      }

-- ---- a part that is copied, and the loop that inverts one: its first k codes are stored

pub copy_part : {out new : List ℕ} (j mid to : ℕ) → to + (mid - j) ≤ length out → mid ≤ to
    → new ≡ take to out ++ take (mid - j) (drop j out) ++ drop (to + (mid - j)) out → Transferred (λ vs. vs) out j to (mid - j) new
copy_part {out} {new} j mid to h l e =
    let part = take (mid - j) (drop j out) in
    let long : length part ≡ mid - j = length-take-le (mid - j) (drop j out) (omega (arith, length-drop j out)) in
    let w : new ≡ sets out to part = e ∙ sym (sets-eq part out to (omega (arith, long)) ∙ ap (λ (k : ℕ). take to out ++ part ++ drop (to + k) out) long) in
    record { before = ap (take to) w ∙ sets-front part out to; stored = λ t. w }

pub record Moving (part xs out₀ : List ℕ) (to : ℕ) (out : List ℕ) (k : ℕ) : Type 0 where
  pub before : take to out ≡ take to out₀
  pub long : length out ≡ length out₀
  pub stored : Turned part → Looped out₀ to xs (λ c. c ∷ []) k out (to + k)

pub move_none : {part xs out : List ℕ} {to : ℕ} → Moving part xs out to out 0
move_none {part} {xs} {out} {to} =
    record { before = refl; long = refl; stored = λ t. subst (Looped out to xs (λ c. c ∷ []) 0 out) (omega arith) loop_none }

module _ {part xs out₀ : List ℕ} {to : ℕ} {out : List ℕ} {k : ℕ} (g : Moving part xs out₀ to out k) where
  -- what stands before the place that is written to is as it was
  pub move_under : (i : ℕ) → i < to → get_or out i 0 ≡ get_or out₀ i 0
  move_under i h = sym (get_or-take to out i 0 h) ∙ ap (λ (o : List ℕ). get_or o i 0) g.before ∙ get_or-take to out₀ i 0 h

  pub move_more : {v : ℕ} → k < length xs → (Turned part → v ≡ get_or xs k 0) → Moving part xs out₀ to (set out (to + k) v) (k + 1)
  move_more {v} h e =
      record {
        before = take-set-le to out (to + k) v (omega arith) ∙ g.before;
        long = length-set out (to + k) v ∙ g.long;
        stored = λ t. subst (Looped out₀ to xs (λ c. c ∷ []) (k + 1) (set out (to + k) v)) (omega arith) (loop_more (g.stored t) h refl (put_one (e t)));
      }

  pub move_all : length xs ≤ k → Turned part → out ≡ sets out₀ to xs
  move_all h t = (loop_all (g.stored t) h).stored ∙ ap (sets out₀ to) (each_self xs)

-- the next code of a part, turned back
module _ (out₀ out : List ℕ) (j to size k : ℕ) (h : k < size) (under : j + size ≤ to) (room : to + size ≤ length out₀) where
  part_long : length (take size (drop j out₀)) ≡ size
  part_long = length-take-le size (drop j out₀) (omega (arith, length-drop j out₀))

  part_at : {xs : List ℕ} → Moving (take size (drop j out₀)) xs out₀ to out k → (i : ℕ) → i < size → get_or (take size (drop j out₀)) i 0 ≡ get_or out (j + i) 0
  part_at g i l = get_or-take size (drop j out₀) i 0 l ∙ get_or-drop j out₀ i 0 ∙ sym (move_under g (j + i) (omega arith))

  pub invert_more : {v : ℕ} → Moving (take size (drop j out₀)) (inverse (take size (drop j out₀))) out₀ to out k
      → (0 < (move_of (get_or out (j + (size - 1 - k)) 0)).turn → v ≡ inverse_of (get_or out (j + (size - 1 - k)) 0))
      → Moving (take size (drop j out₀)) (inverse (take size (drop j out₀))) out₀ to (set out (to + k) v) (k + 1)
  invert_more {v} g e =
      let part = take size (drop j out₀) in
      let l = part_long in
      let m = length-inverse part in
      let is : get_or part (length part - 1 - k) 0 ≡ get_or out (j + (size - 1 - k)) 0
      = ap (λ (i : ℕ). get_or part (i - 1 - k) 0) l ∙ part_at g (size - 1 - k) (omega arith) in
      move_more g (omega arith)
      (λ t. inverse-next part t (omega arith)
      (subst (λ (x : ℕ). 0 < (move_of x).turn → v ≡ inverse_of x) (sym is) e))

-- ---- the repeat: c - 1 copies are there

copies_snoc : (k : ℕ) (vs : List ℕ) → copies k vs ++ vs ≡ copies (suc k) vs
unfolding copies
copies_snoc zero vs = sym (append-nil vs)
copies_snoc (suc k) vs = append_assoc vs (copies k vs) vs ∙ ap (λ (l : List ℕ). vs ++ l) (copies_snoc k vs)

copies_none : (vs : List ℕ) → copies 0 vs ≡ []
unfolding copies
copies_none vs = refl

pub record Repeating (cap : ℕ) (out₀ : List ℕ) (j mid times : ℕ) (out : List ℕ) (end c : ℕ) : Type 0 where
  pub some : 0 < c
  pub most : c ≤ times
  pub behind : Behind cap out j mid end
  pub long : length out ≡ length out₀
  pub appended : Appended cap (copies (c - 1)) out₀ j mid mid out end

module _ {cap : ℕ} {out₀ : List ℕ} {j mid times : ℕ} where
  pub repeat_none : Behind cap out₀ j mid mid → 0 < times → Repeating cap out₀ j mid times out₀ mid 1
  repeat_none b h =
      record {
        some = omega arith;
        most = omega arith;
        behind = b;
        long = refl;
        appended = record { from = omega arith; most = b.placed.most; before = refl; filled = λ vs t s. subst (λ (l : List ℕ). Filled cap out₀ mid l out₀ mid) (sym (copies_none vs)) (fill_none b.placed.most) };
      }

  pub repeat_more : {out new : List ℕ} {end r c : ℕ} → Behind cap out₀ j mid mid → Repeating cap out₀ j mid times out end c → c < times
      → length new ≡ length out → Appended cap (λ vs. vs) out j mid end new r → Repeating cap out₀ j mid times new r (c + 1)
  repeat_more {out} {new} {end} {r} {c} b g h l a =
      let z : suc (c - 1) ≡ c + 1 - 1 = omega (arith, g.some) in
      record {
        some = omega arith;
        most = omega arith;
        behind = record { some = b.some; after = omega (arith, g.behind.after, a.from); placed = record { most = a.most; short = omega (arith, g.behind.placed.short) } };
        long = l ∙ g.long;
        appended = record {
          from = omega (arith, g.behind.after, a.from);
          most = a.most;
          before = sym (take-take mid end new g.behind.after) ∙ ap (take mid) a.before ∙ take-take mid end out g.behind.after ∙ g.appended.before;
          filled = λ vs t s.
              let s' = stands_before {out = out₀} {new = out} {to = mid} b.placed.short (omega arith) g.appended.before g.long s in
              subst (λ (k : List ℕ). Filled cap out₀ mid k new r) (copies_snoc (c - 1) vs ∙ ap (λ (k : ℕ). copies k vs) z)
              (fill_then b.placed (g.appended.filled vs t s) (a.filled vs t s'));
        };
      }
