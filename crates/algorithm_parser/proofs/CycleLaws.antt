-- The two readers that call each other: what the sequence's loop keeps, and each way through a group.
use Prim.Native.Nat.{ℕ, suc, ◌+◌, ◌-◌, ◌≤◌, ◌<◌}
use mathlib.Core.Path.{◌≡◌, refl, sym, ap, subst, ◌∙◌}
use mathlib.Core.Bool.{Bool, true, false, ◌||◌}
use mathlib.Core.List.{List}
use native.Mathlib.Omega.{arith}
use lib.ListN.{length, get_or, take, drop}
use lib.Dec.{eqb}
use Rattle.std.specs.Prelude.{Result, Ok, Err}
use borrow.Author.Tests.{eq-eqb, ne_eqb}
use Rattle.tokens.specs.Words.{group_signs, is_sign}
use Rattle.tokens.specs.Token.{fault, read_token}
use Rattle.tokens.specs.Inner.{Found}
use Rattle.tokens.specs.declared.Fault.{Fault}
use Rattle.move_lists.proofs.ListLaws.{good_turned}
use Rattle.algorithm_parser.specs.Algorithm.{Alg, nothing, expand}
use Rattle.algorithm_parser.specs.Groups.{Outcome, means, wrong, and_then, front, opening, other, token, sort_of, token_then, word_then, round_end, square_end, paired, second_then, group_then, sequence_at, group_at}
use Rattle.algorithm_parser.specs.Inner.{Filled, Placed, Behind, Told, token_alone, token_at, Laid}
use Rattle.algorithm_parser.specs.declared.Read.{Read}
use Rattle.algorithm_parser.proofs.ReaderLaws.{word_of, word_ends, Sound, Fine, at_word, at_group, at_fine, group_at_fine}
use Rattle.algorithm_parser.proofs.RoomLaws.{fill_none, fill_then, fill_placed}
use Rattle.algorithm_parser.proofs.TellingLaws.{read_to}

-- ---- what was told, taken apart

module _ (cap : ℕ) (out : List ℕ) (j : ℕ) where
  pub told_read : (o : Outcome) (new : List ℕ) {r : Read} → Told cap out j o new (Ok r) → (a : Alg) × (o ≡ means a r.end) × Filled cap out j (expand a) new r.next
  told_read (means a e') new t = (a, ap (means a) (sym t.0), t.1)
  told_read (wrong a b) new t = absurd t

  -- what is refused is refused wherever the output stands
  pub told_bad : (o : Outcome) (new : List ℕ) {f : Fault} → Told cap out j o new (Err f)
      → (k : ℕ) × (p : ℕ) × (o ≡ wrong k p) × (f ≡ fault k p)
  told_bad (means a e) new t = absurd t
  told_bad (wrong k p) new t = (k, p, refl, t)

-- one part in front of another: what is told of the second is told of both
told_front : (cap : ℕ) (out : List ℕ) (j : ℕ) (b : Alg) (o : Outcome) {mid : List ℕ} {k : ℕ} → Placed cap out j → Filled cap out j (expand b) mid k
    → (new : List ℕ) (r : Result Read Fault) → Told cap mid k o new r → Told cap out j (front b o) new r
unfolding expand
told_front cap out j b (means a e) p f new (Ok r) t = (t.0, fill_then p f t.1)
told_front cap out j b (means a e) p f new (Err g) t = t
told_front cap out j b (wrong k q) p f new (Ok r) t = t
told_front cap out j b (wrong k q) p f new (Err g) t = t

-- ---- a sequence, one word on

sort_open : (b : ℕ) → (eqb b 40 || eqb b 91) ≡ true → sort_of b ≡ opening
unfolding sort_of
sort_open b t = rw t

sort_other : (b : ℕ) → (eqb b 40 || eqb b 91) ≡ false → is_sign group_signs b ≡ true → sort_of b ≡ other
unfolding sort_of
sort_other b t s = rw (t, s)

sort_token : (b : ℕ) → (eqb b 40 || eqb b 91) ≡ false → is_sign group_signs b ≡ false → sort_of b ≡ token
unfolding sort_of
sort_token b t s = rw (t, s)

-- a token in front of the rest, as a group stands in front of it
token_then_lem : (t : Result ℕ Fault) (s e : ℕ) (rest : ℕ → Outcome) → token_then t s (rest e) ≡ and_then (token_alone t s e) (λ a d. front a (rest d))
token_then_lem (Ok c) s e rest = refl
token_then_lem (Err f) s e rest = refl

module _ (n : ℕ) (text : List ℕ) (left : ℕ) {i s e : ℕ} (f : Found group_signs text i s e) where
  module _ (t : (eqb (get_or text s 0) 40 || eqb (get_or text s 0) 91) ≡ true) where
    pub word_deep : left ≡ 0 → sequence_at n text left i ≡ wrong 17 s
    word_deep z =
        at_word n text left f ∙ rw (sort_open (get_or text s 0) t)
        (ap (λ (l : ℕ). word_then opening n l (word_of text s e) (group_at n text (left - 1)) (sequence_at n text left)) z)

    pub word_group : (left ≡ 0 → ⊥) → sequence_at n text left i ≡ and_then (group_at n text (left - 1) s) (λ a d. front a (sequence_at n text left d))
    word_group z =
        let l : left ≡ suc (left - 1) = omega arith in
        at_word n text left f ∙ rw (sort_open (get_or text s 0) t)
        (ap (λ (m : ℕ). word_then opening n m (word_of text s e) (group_at n text (left - 1)) (sequence_at n text left)) l)

  module _ (t : (eqb (get_or text s 0) 40 || eqb (get_or text s 0) 91) ≡ false) where
    pub word_other : is_sign group_signs (get_or text s 0) ≡ true → sequence_at n text left i ≡ means nothing s
    word_other u = at_word n text left f ∙ rw (sort_other (get_or text s 0) t u)

    pub word_token : is_sign group_signs (get_or text s 0) ≡ false
        → sequence_at n text left i ≡ and_then (token_at n text s e) (λ a d. front a (sequence_at n text left d))
    word_token u =
        at_word n text left f ∙ rw (sort_token (get_or text s 0) t u)
        (ap (λ (d : ℕ). token_then (read_token n (take (e - s) (drop s text))) s (sequence_at n text left d)) (word_ends f)
        ∙ token_then_lem (read_token n (take (e - s) (drop s text))) s e (sequence_at n text left))

-- ---- the sequence's loop: what is told of the rest is told of the whole

pub record Going (n : ℕ) (text : List ℕ) (left i cap : ℕ) (out₀ : List ℕ) (j : ℕ) (out : List ℕ) (at next : ℕ) : Type 0 where
  pub from : i ≤ at
  pub within : at ≤ length text
  pub long : length out ≡ length out₀
  pub placed : Placed cap out next
  pub tells : (new : List ℕ) (r : Result Read Fault) → Told cap out next (sequence_at n text left at) new r → Told cap out₀ j (sequence_at n text left i) new r

module _ {n : ℕ} {text : List ℕ} {left i cap : ℕ} {out₀ : List ℕ} {j : ℕ} {out : List ℕ} {at next : ℕ} (g : Going n text left i cap out₀ j out at next) where
  expand_nothing : Filled cap out next (expand nothing) out next
  unfolding expand
  expand_nothing = fill_none g.placed.most

  -- it ends
  pub go_end : {s : ℕ} → sequence_at n text left at ≡ means nothing s → Told cap out₀ j (sequence_at n text left i) out (Ok (read_to s next))
  go_end {s} q = g.tells out (Ok (read_to s next)) (subst (λ (o : Outcome). Told cap out next o out (Ok (read_to s next))) (sym q) (refl, expand_nothing))

  pub go_wrong : {k p : ℕ} → sequence_at n text left at ≡ wrong k p → Told cap out₀ j (sequence_at n text left i) out (Err (fault k p))
  go_wrong {k} {p} q = g.tells out (Err (fault k p)) (subst (λ (o : Outcome). Told cap out next o out (Err (fault k p))) (sym q) refl)

  -- a group or a token in front of the rest
  module _ (o : Outcome) (q : sequence_at n text left at ≡ and_then o (λ a d. front a (sequence_at n text left d))) (new : List ℕ) where
    pub go_bad : (f : Fault) → Told cap out next o new (Err f) → Told cap out₀ j (sequence_at n text left i) new (Err f)
    go_bad f t =
        let w = told_bad cap out next o new t in
        g.tells new (Err f) (subst (λ (x : Outcome). Told cap out next x new (Err f)) (sym (q ∙ ap (λ (x : Outcome). and_then x (λ a d. front a (sequence_at n text left d))) w.2)) w.3)

    pub go_more : (r : Read) → Told cap out next o new (Ok r) → at ≤ r.end → r.end ≤ length text → Going n text left i cap out₀ j new r.end r.next
    go_more r t l m =
        let w = told_read cap out next o new t in
        let p : sequence_at n text left at ≡ front w.0 (sequence_at n text left r.end) = q ∙ ap (λ (y : Outcome). and_then y (λ a d. front a (sequence_at n text left d))) w.1 in
        record {
          from = omega (arith, g.from);
          within = m;
          long = w.2.long ∙ g.long;
          placed = fill_placed g.placed w.2;
          tells = λ last y z. g.tells last y (subst (λ (v : Outcome). Told cap out next v last y) (sym p)
              (told_front cap out next w.0 (sequence_at n text left r.end) g.placed w.2 last y z));
        }

-- where a token or a group ends
pub token_end_lem : (cap : ℕ) (out : List ℕ) (j : ℕ) (t : Result ℕ Fault) (s e : ℕ) (new : List ℕ) {r : Result Read Fault} {x : Read} → r ≡ Ok x
    → Told cap out j (token_alone t s e) new r → x.end ≡ e
token_end_lem cap out j t s e new {r} {x} y z = go t (subst (Told cap out j (token_alone t s e) new) y z)
  where
    go : (t : Result ℕ Fault) → Told cap out j (token_alone t s e) new (Ok x) → x.end ≡ e
    go (Ok c) z = z.0
    go (Err f) z = absurd z

pub fine_means : (n : ℕ) (text : List ℕ) (lo : ℕ) {o : Outcome} {a : Alg} {e : ℕ} → o ≡ means a e → Fine n text lo o → Sound n text lo a e
fine_means n text lo q f = subst (Fine n text lo) q f

pub group_end : (n : ℕ) (text : List ℕ) (left s cap : ℕ) (out : List ℕ) (j : ℕ) (new : List ℕ) (r : Read) → s < length text
    → Told cap out j (group_at n text left s) new (Ok r) → (s + 1 ≤ r.end) × (r.end ≤ length text)
group_end n text left s cap out j new r h t =
    let w = told_read cap out j (group_at n text left s) new t in
    let f = fine_means n text (s + 1) w.1 (group_at_fine n text left s h) in
    (f.from, f.within)

-- ---- a group: its first sequence and its second, as they were read

pub record Part_read (n : ℕ) (text : List ℕ) (left i cap : ℕ) (out : List ℕ) (j : ℕ) (new : List ℕ) (end next : ℕ) : Type 0 where
  pub meaning : Alg
  pub read : sequence_at n text left i ≡ means meaning end
  pub laid : Laid cap out j meaning new next
  pub from : i ≤ end
  pub within : end ≤ length text

pub part_read : (n : ℕ) (text : List ℕ) (left i cap : ℕ) (out : List ℕ) (j : ℕ) (new : List ℕ) (r : Read) → i ≤ length text
    → Told cap out j (sequence_at n text left i) new (Ok r) → Part_read n text left i cap out j new r.end r.next
part_read n text left i cap out j new r h t =
    let w = told_read cap out j (sequence_at n text left i) new t in
    let f = fine_means n text i w.1 (at_fine n text left i h) in
    record { meaning = w.0; read = w.1; laid = record { filled = w.2; turned = good_turned 1 n (expand w.0) f.good }; from = f.from; within = f.within }

-- the place behind a part lies behind its start
pub part_behind : {n : ℕ} {text : List ℕ} {left i cap : ℕ} {out : List ℕ} {j : ℕ} {new : List ℕ} {e k : ℕ} → Placed cap out j
    → Part_read n text left i cap out j new e k → Behind cap new j k k
part_behind p q =
    record { some = omega (arith, q.laid.filled.next, p.most); after = omega arith; placed = fill_placed p q.laid.filled }

-- the test of the sign that was read
pub parting_is : {b sign : ℕ} {r x : Bool} → sign ≡ b → r ≡ (eqb sign 44 || eqb sign 58) → r ≡ x → (eqb b 44 || eqb b 58) ≡ x
parting_is {b} {sign} {r} {x} e q t = subst (λ (y : ℕ). (eqb y 44 || eqb y 58) ≡ x) e (sym q ∙ t)

module _ (n : ℕ) (text : List ℕ) (left s cap : ℕ) (out : List ℕ) (j : ℕ) (h : s < length text) where
  pub group_bad : (new : List ℕ) (f : Fault) → Told cap out j (sequence_at n text left (s + 1)) new (Err f) → Told cap out j (group_at n text left s) new (Err f)
  group_bad new f t =
      let w = told_bad cap out j (sequence_at n text left (s + 1)) new t in
      subst (λ (o : Outcome). Told cap out j o new (Err f))
      (sym (at_group n text left s h ∙ ap (λ (o : Outcome). and_then o (λ a e. group_then (eqb (get_or text s 0) 40) text a e (sequence_at n text left))) w.2))
      w.3

  module _ {mid : List ℕ} {end k : ℕ} (q : Part_read n text left (s + 1) cap out j mid end k) where
    group_is : group_at n text left s ≡ group_then (eqb (get_or text s 0) 40) text q.meaning end (sequence_at n text left)
    group_is = at_group n text left s h ∙ ap (λ (o : Outcome). and_then o (λ a e. group_then (eqb (get_or text s 0) 40) text a e (sequence_at n text left))) q.read

    pub group_round : (new : List ℕ) (r : Result Read Fault) → get_or text s 0 ≡ 40 → Told cap out j (round_end text q.meaning end) new r → Told cap out j (group_at n text left s) new r
    group_round new r x t =
        let e : eqb (get_or text s 0) 40 ≡ true = eq-eqb (get_or text s 0) 40 x in
        subst (λ (o : Outcome). Told cap out j o new r) (sym (group_is ∙ ap (λ (y : Bool). group_then y text q.meaning end (sequence_at n text left)) e)) t

    module _ (x : get_or text s 0 ≡ 40 → ⊥) where
      second_is : group_at n text left s ≡ second_then (eqb (get_or text end 0) 44 || eqb (get_or text end 0) 58) text q.meaning end (sequence_at n text left)
      second_is =
          let e : eqb (get_or text s 0) 40 ≡ false = ne_eqb (get_or text s 0) 40 x in
          group_is ∙ ap (λ (y : Bool). group_then y text q.meaning end (sequence_at n text left)) e

      pub group_no_sign : (eqb (get_or text end 0) 44 || eqb (get_or text end 0) 58) ≡ false → Told cap out j (group_at n text left s) mid (Err (fault 16 end))
      group_no_sign y = subst (λ (o : Outcome). Told cap out j o mid (Err (fault 16 end))) (sym (second_is ∙ ap (λ (t : Bool). second_then t text q.meaning end (sequence_at n text left)) y)) refl

      module _ (y : (eqb (get_or text end 0) 44 || eqb (get_or text end 0) 58) ≡ true) where
        both_is : group_at n text left s ≡ and_then (sequence_at n text left (end + 1)) (λ b d. square_end text (paired (get_or text end 0) q.meaning b) d)
        both_is = second_is ∙ ap (λ (t : Bool). second_then t text q.meaning end (sequence_at n text left)) y

        pub group_second_bad : (new : List ℕ) (f : Fault) → Told cap mid k (sequence_at n text left (end + 1)) new (Err f) → Told cap out j (group_at n text left s) new (Err f)
        group_second_bad new f t =
            let w = told_bad cap mid k (sequence_at n text left (end + 1)) new t in
            subst (λ (o : Outcome). Told cap out j o new (Err f))
            (sym (both_is ∙ ap (λ (o : Outcome). and_then o (λ b d. square_end text (paired (get_or text end 0) q.meaning b) d)) w.2))
            w.3

        pub group_square : {all : List ℕ} (new : List ℕ) {d m : ℕ} (sign : ℕ) (r : Result Read Fault) (p : Part_read n text left (end + 1) cap mid k all d m) → sign ≡ get_or text end 0
            → Told cap out j (square_end text (paired sign q.meaning p.meaning) d) new r → Told cap out j (group_at n text left s) new r
        group_square {all} new {d} {m} sign r p z t =
            subst (λ (o : Outcome). Told cap out j o new r)
            (sym (both_is ∙ ap (λ (o : Outcome). and_then o (λ b d. square_end text (paired (get_or text end 0) q.meaning b) d)) p.read))
            (subst (λ (b : ℕ). Told cap out j (square_end text (paired b q.meaning p.meaning) d) new r) z t)
