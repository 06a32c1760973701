-- Laws of words: one byte on, the walk over spaces, the walk over a word, and how many there are.
use Prim.Native.Nat.{ℕ, zero, suc, ◌+◌, ◌-◌, ◌/◌, ◌%◌, ◌^◌, ◌≤◌, ◌<◌}
use mathlib.Core.Path.{◌≡◌, refl, sym, ap, ◌∙◌}
use mathlib.Core.Bool.{Bool, true, false, true≢false}
use mathlib.Core.List.{List, [], ◌∷◌, ◌++◌, append_assoc, append-nil}
use native.Mathlib.Omega.{arith}
use native.Mathlib.Numerals.{add-one}
use lib.ListN.{length, get_or, take, drop, length-drop, drop_of_length-le}
use lib.Seq.{drop-cons, take-suc, get_or-drop}
use lib.Dec.{eqb, ltb}
use borrow.Author.Tests.{eqb-true}
use Rattle.ground.specs.Choice.{pick, any}
use Rattle.ground.proofs.ChoiceLaws.{bool_cases, less_cases, any_below, tested}
use Rattle.tokens.specs.Words.{is_space, group_signs, is_sign, ends_word, Run, word_bytes, words, words_from}
use Rattle.tokens.specs.Inner.{Skipped, Found}

-- ---- the signs of groups

-- the way to a sign by the code: a bit for each byte, from ( on
unfoldable pub sign_bits : ℕ
sign_bits = 11258999068688403

abbrev pub sign_at : ℕ → ℕ
sign_at b = sign_bits / 2 ^ (b - 40) % 2

unfoldable pub sign_bit : ℕ → ℕ
sign_bit b = pick (ltb b 40) 0 (pick (ltb 93 b) 0 (sign_at b))

pub sign_by : (b : ℕ) → b < 256 → eqb (sign_bit b) 1 ≡ is_sign group_signs b
unfolding sign_bits sign_bit is_sign any any_below
sign_by b h =
    let e : sign_bit b ≡ pick (is_sign group_signs b) 1 0 = eqb-true _ _ (tested (λ x. eqb (sign_bit x) (pick (is_sign group_signs x) 1 0)) 256 refl b h) in
    ap (λ (k : ℕ). eqb k 1) e ∙ bool_cases (is_sign group_signs b) (λ t. rw t) (λ t. rw t)

-- ---- words, one byte on

pub record Ordinary (signs : List ℕ) (b : ℕ) : Type 0 where
  pub space : is_space b ≡ false
  pub sign : is_sign signs b ≡ false

ordinary : (signs : List ℕ) (b : ℕ) → ends_word signs b ≡ false → Ordinary signs b
unfolding ends_word
ordinary signs b e =
    bool_cases (is_space b)
    (λ t. absurd (true≢false (rw t at e)))
    (λ t. record { space = t; sign = rw t at e })

module _ (signs : List ℕ) (at b : ℕ) (bs : List ℕ) where
  words_space : (inside : Bool) → is_space b ≡ true → words signs at inside (b ∷ bs) ≡ words signs (at + 1) false bs
  unfolding words
  words_space inside e = rw e

  words_sign : (inside : Bool) → is_space b ≡ false → is_sign signs b ≡ true
      → words signs at inside (b ∷ bs) ≡ record { start = at; bytes = b ∷ [] } ∷ words signs (at + 1) false bs
  unfolding words
  words_sign inside e d = rw (e, d)

  -- any other byte is the first of a word, or one more of it
  words_first : ends_word signs b ≡ false
      → words signs at false (b ∷ bs) ≡ record { start = at; bytes = b ∷ word_bytes signs bs } ∷ words signs (at + 1) true bs
  unfolding words
  words_first e = let o = ordinary signs b e in rw (o.space, o.sign)

  words_more : ends_word signs b ≡ false → words signs at true (b ∷ bs) ≡ words signs (at + 1) true bs
  unfolding words
  words_more e = let o = ordinary signs b e in rw (o.space, o.sign)

  -- where a word ends it doesn't matter that there was one
  words_stop : ends_word signs b ≡ true → words signs at true (b ∷ bs) ≡ words signs at false (b ∷ bs)
  unfolding ends_word
  words_stop e =
      bool_cases (is_space b)
      (λ t. words_space true t ∙ sym (words_space false t))
      (λ t. words_sign true t (rw t at e) ∙ sym (words_sign false t (rw t at e)))

-- ---- the walk over spaces

-- j was reached from i over spaces
pub record Skipping (text : List ℕ) (i j : ℕ) : Type 0 where
  pub from : i ≤ j
  pub within : j ≤ length text
  pub same : (signs : List ℕ) → words_from signs text i ≡ words_from signs text j

module _ {text : List ℕ} {i : ℕ} where
  pub skip_none : i ≤ length text → Skipping text i i
  skip_none h = record { from = omega arith; within = h; same = λ signs. refl }

  pub skip_more : {j : ℕ} → Skipping text i j → j < length text → is_space (get_or text j 0) ≡ true → Skipping text i (j + 1)
  skip_more {j} g h e =
      record {
        from = omega arith;
        within = omega arith;
        same = λ signs. g.same signs ∙ rw (drop-cons text j 0, words_space signs j (get_or text j 0) (drop (suc j) text) false e, add-one j);
      }

  pub skip_stop : {j : ℕ} → Skipping text i j → is_space (get_or text j 0) ≡ false → Skipped text i j
  skip_stop g e = record { from = g.from; within = g.within; same = g.same; stops = λ h. e }

  pub skip_all : {j : ℕ} → Skipping text i j → length text ≤ j → Skipped text i j
  skip_all g h = record { from = g.from; within = g.within; same = g.same; stops = λ k. absurd (omega arith) }

-- ---- the walk over a word

-- the word that starts at i has the bytes up to e, and those that follow
abbrev pub word_up_to : List ℕ → List ℕ → ℕ → ℕ → List Run
word_up_to signs text i e =
    record { start = i; bytes = take (e - i) (drop i text) ++ word_bytes signs (drop e text) } ∷ words signs e true (drop e text)

pub record InWord (signs text : List ℕ) (i e : ℕ) : Type 0 where
  pub some : i < e
  pub most : e ≤ length text
  pub same : words_from signs text i ≡ word_up_to signs text i e

module _ (signs text : List ℕ) (i e : ℕ) where
  over_byte : i ≤ e → e < length text → ends_word signs (get_or text e 0) ≡ false → word_up_to signs text i e ≡ word_up_to signs text i (e + 1)
  unfolding word_bytes
  over_byte h l s =
      let k : e + 1 - i ≡ suc (e - i) = omega arith in
      let m : i + (e - i) ≡ e = omega arith in
      let d : e - i < length (drop i text) = simp length-drop (omega arith) in
      rw (
        k,
        take-suc (drop i text) (e - i) 0 d,
        get_or-drop,
        m,
        drop-cons text e 0,
        words_more signs e (get_or text e 0) (drop (suc e) text) s,
        s,
        add-one e,
        append_assoc,
      )

module _ {signs text : List ℕ} {i : ℕ} where
  pub word_one : i < length text → is_space (get_or text i 0) ≡ false → is_sign signs (get_or text i 0) ≡ false → InWord signs text i (i + 1)
  unfolding ends_word word_bytes
  word_one l s g =
      let z : ends_word signs (get_or text i 0) ≡ false = rw (s, g) in
      let k : i + 1 - i ≡ suc 0 = omega arith in
      record {
        some = omega arith;
        most = omega arith;
        same = rw (k, drop-cons text i 0, words_first signs i (get_or text i 0) (drop (suc i) text) z, add-one i);
      }

  pub word_more : {e : ℕ} → InWord signs text i e → e < length text → ends_word signs (get_or text e 0) ≡ false → InWord signs text i (e + 1)
  word_more {e} g l s = record { some = omega arith; most = omega arith; same = g.same ∙ over_byte signs text i e (omega arith) l s }

  pub word_stop : {e : ℕ} → InWord signs text i e → e < length text → ends_word signs (get_or text e 0) ≡ true → Found signs text i i e
  unfolding word_bytes
  word_stop {e} g l s =
      record {
        from = omega arith;
        some = g.some;
        within = g.most;
        one = g.same ∙ rw (drop-cons text e 0, s, append-nil, words_stop signs e (get_or text e 0) (drop (suc e) text) s);
      }

  pub word_all : {e : ℕ} → InWord signs text i e → length text ≤ e → Found signs text i i e
  unfolding word_bytes words
  word_all {e} g l =
      record { from = omega arith; some = g.some; within = g.most; one = g.same ∙ rw (drop_of_length-le text l, append-nil) }

  -- a sign is a word
  pub word_sign : i < length text → is_space (get_or text i 0) ≡ false → is_sign signs (get_or text i 0) ≡ true → Found signs text i i (i + 1)
  word_sign l s g =
      let k : i + 1 - i ≡ suc 0 = omega arith in
      record {
        from = omega arith;
        some = omega arith;
        within = omega arith;
        one = rw (k, drop-cons text i 0, words_sign signs i (get_or text i 0) (drop (suc i) text) false s g, add-one i);
      }

-- spaces, then a word; or spaces to the end
pub skip_found : {signs text : List ℕ} {i s e : ℕ} → Skipped text i s → Found signs text s s e → Found signs text i s e
skip_found {signs} k f = record { from = k.from; some = f.some; within = f.within; one = k.same signs ∙ f.one }

pub skip_end : (signs : List ℕ) {text : List ℕ} {i s : ℕ} → Skipped text i s → length text ≤ s → words_from signs text i ≡ []
unfolding words
skip_end signs {text} k h = k.same signs ∙ rw (drop_of_length-le text h)

-- ---- from every place on there is a word, or none is left

module _ {ℓ} {A : Type ℓ} (signs text : List ℕ) (i : ℕ) where
  -- the word that starts at j ends somewhere
  some_end : (m : ℕ) {j e : ℕ} → length text - e ≤ m → InWord signs text j e → ((d : ℕ) → Found signs text j j d → A) → A
  some_end zero {j} {e} h w f = f e (word_all w (omega (arith, w.most)))
  some_end (suc m) {j} {e} h w f =
      less_cases e (length text)
      (λ l. bool_cases (ends_word signs (get_or text e 0)) (λ t. f e (word_stop w l t)) (λ t. some_end m (omega arith) (word_more w l t) f))
      (λ l. f e (word_all w l))

  some_word : (m j : ℕ) → length text - j ≤ m → Skipping text i j → (words_from signs text i ≡ [] → A) → ((s e : ℕ) → Found signs text i s e → A) → A
  some_word zero j h g f k = f (skip_end signs (skip_all g (omega (arith, g.within))) (omega (arith, g.within)))
  some_word (suc m) j h g f k =
      less_cases j (length text)
      (λ l. bool_cases (is_space (get_or text j 0))
      (λ t. some_word m (j + 1) (omega arith) (skip_more g l t) f k)
      (λ t. bool_cases (is_sign signs (get_or text j 0))
      (λ u. k j (j + 1) (skip_found (skip_stop g t) (word_sign l t u)))
      (λ u. some_end (length text) (omega arith) (word_one l t u) (λ e d. k j e (skip_found (skip_stop g t) d)))))
      (λ l. f (skip_end signs (skip_all g l) l))

  pub first_word : i ≤ length text → (words_from signs text i ≡ [] → A) → ((s e : ℕ) → Found signs text i s e → A) → A
  first_word h f k = some_word (length text) i (omega arith) (skip_none h) f k

-- ---- a word in front of a space or of the end

module _ (signs : List ℕ) where
  bytes_run : (w rest : List ℕ) → any (ends_word signs) w ≡ false → word_bytes signs rest ≡ [] → word_bytes signs (w ++ rest) ≡ w
  unfolding any word_bytes
  bytes_run [] rest h e = e
  bytes_run (b ∷ w) rest h e =
      bool_cases (ends_word signs b)
      (λ t. absurd (true≢false (rw t at h)))
      (λ t. rw t (ap (λ (x : List ℕ). b ∷ x) (bytes_run w rest (rw t at h) e)))

  words-run : (at : ℕ) (w rest : List ℕ) → any (ends_word signs) w ≡ false → words signs at true (w ++ rest) ≡ words signs (at + length w) true rest
  unfolding any
  words-run at [] rest h = ap (λ (i : ℕ). words signs i true rest) (omega arith)
  words-run at (b ∷ w) rest h =
      bool_cases (ends_word signs b)
      (λ t. absurd (true≢false (rw t at h)))
      (λ t. words_more signs at b (w ++ rest) t ∙ words-run (at + 1) w rest (rw t at h) ∙ ap (λ (i : ℕ). words signs i true rest) (omega arith))

  pub words_word : (at b : ℕ) (w rest : List ℕ) → any (ends_word signs) (b ∷ w) ≡ false → word_bytes signs rest ≡ []
      → words signs at false (b ∷ (w ++ rest)) ≡ record { start = at; bytes = b ∷ w } ∷ words signs (at + length (b ∷ w)) true rest
  unfolding any
  words_word at b w rest h e =
      bool_cases (ends_word signs b)
      (λ t. absurd (true≢false (rw t at h)))
      (λ t. words_first signs at b (w ++ rest) t ∙ rw (bytes_run w rest (rw t at h) e, words-run (at + 1) w rest (rw t at h))
      (ap (λ (i : ℕ). record { start = at; bytes = b ∷ w } ∷ words signs i true rest) (omega arith)))

-- ---- no more words than bytes

pub words_few : (signs : List ℕ) (at : ℕ) (inside : Bool) (bs : List ℕ) → length (words signs at inside bs) ≤ length bs
unfolding words
words_few signs at inside [] = omega arith
words_few signs at inside (b ∷ bs) =
    bool_cases (is_space b) (λ t. rw t (omega (arith, words_few signs (at + 1) false bs))) (λ t.
    bool_cases (is_sign signs b) (λ u. rw (t, u) (omega (arith, words_few signs (at + 1) false bs))) (λ u.
    bool_cases inside (λ v. rw (t, u, v) (omega (arith, words_few signs (at + 1) true bs)))
    (λ v. rw (t, u, v) (omega (arith, words_few signs (at + 1) true bs)))))
