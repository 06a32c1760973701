-- The writer's text of a code is a token of the grammar, and a token is the writer's text or that with a `2` before it.
use Prim.Native.Nat.{ℕ, ◌+◌, ◌-◌, ◌*◌, ◌/◌, ◌%◌, ◌≤◌, ◌<◌}
use mathlib.Core.Path.{◌≡◌, refl, sym, ap, subst, ◌∙◌}
use mathlib.Core.Bool.{false, true≢false, not}
use mathlib.Core.Logic.{◌⊎◌, inl, inr, ⊎_elim}
use mathlib.Core.List.{List, [], ◌∷◌, ◌++◌}
use native.Mathlib.Omega.{arith}
use lib.ListN.{length, get_or, length-append}
use lib.Dec.{ltb, eqb}
use borrow.Author.Tests.{ne_eqb, le-ltb, eqb-true, eqb-false, ltb-true, ltb-false, not-true}
use Rattle.ground.specs.Choice.{pick, any, between}
use Rattle.ground.proofs.ChoiceLaws.{bool_cases, between_bounds, bounds_between, over-between, any_append}
use Rattle.generic_cube.specs.declared.Move.{Move}
use Rattle.generic_cube.specs.Code.{move, move_of, is_wide, bad_code, read_code}
use Rattle.generic_cube.proofs.AllMovesLaws.{holds_at}
use Rattle.generic_cube.proofs.CodeLaws.{move_eq, turn_most, code_bounds, code_width, inside, Good}
use Rattle.tokens.specs.Token.{kind_letters, plain_kind}
use Rattle.tokens.specs.Words.{is_space, is_sign, ends_word}
use Rattle.tokens.proofs.TokenLaws.{plain_kind_lem, wide_of, token_good}
use Rattle.scramble_writer.specs.Write.{kind_byte, mark_text, width_text, token_text, text_of}
use Rattle.scramble_writer.proofs.WriteLaws.{width_none, width_one, width_two, width_three}
use Rattle.theorems.specs.Notation.{Suffix, quarter_mark, half_mark, counter_mark, Width, no_digits, one_digit, two_digits, three_digits, Shaped, plain_token, wide_token, Spelled, TwoTexts}
use Rattle.theorems.proofs.GrammarLaws.{width_taken, accepts_no_other}

-- ---- the writer's text is a token

suffix_text : (t : ℕ) → 1 ≤ t → t ≤ 3 → Suffix (mark_text t) t
unfolding mark_text
suffix_text t l h =
    bool_cases (eqb t 1) (λ a. rw a (subst (Suffix []) (sym (eqb-true t 1 a)) quarter_mark)) (λ a.
    bool_cases (eqb t 2) (λ b. rw (a, b) (subst (Suffix (50 ∷ [])) (sym (eqb-true t 2 b)) half_mark)) (λ b.
    let x = eqb-false t 1 a in let y = eqb-false t 2 b in
    let e : t ≡ 3 = omega arith in
    rw (a, b) (subst (Suffix (39 ∷ [])) (sym e) counter_mark)))

width_text_lem : (w : ℕ) → 1 < w → w < 1000 → Width (width_text w) w
width_text_lem w l h =
    bool_cases (eqb w 2)
    (λ a. let e = eqb-true w 2 a in rw (width_none e) (subst (Width []) (sym e) no_digits))
    (λ a. let z = eqb-false w 2 a in bool_cases (ltb w 10)
    (λ b. let u = ltb-true w 10 b in rw (width_one z u) (one_digit w (omega arith) u))
    (λ b. let u = ltb-false w 10 b in bool_cases (ltb w 100)
    (λ c. let v = ltb-true w 100 c in
    let e : w / 10 * 10 + w % 10 ≡ w = omega arith in
    rw (width_two u v) (subst (Width ((48 + w / 10) ∷ (48 + w % 10) ∷ [])) e (two_digits (w / 10) (w % 10) (omega arith) (omega arith) (omega arith))))
    (λ c. let v = ltb-false w 100 c in
    let e : w / 100 * 100 + w / 10 % 10 * 10 + w % 10 ≡ w = omega arith in
    rw (width_three v) (subst (Width ((48 + w / 100) ∷ (48 + w / 10 % 10) ∷ (48 + w % 10) ∷ [])) e
    (three_digits (w / 100) (w / 10 % 10) (w % 10) (omega arith) (omega arith) (omega arith) (omega arith))))))

-- a letter's place, from its kind
letter_place : ℕ → ℕ
letter_place k = pick (ltb k 6) k (k - 6)

plain_place : (k : ℕ) → k < 15 → is_wide k ≡ false → (letter_place k < 9) × (plain_kind (letter_place k) ≡ k)
unfolding letter_place is_wide plain_kind between
plain_place k h w =
    bool_cases (ltb k 6)
    (λ t. let l = ltb-true k 6 t in rw t (omega arith, rw t))
    (λ t. let l = ltb-false k 6 t in
    bool_cases (ltb k 12)
    (λ u. let m = ltb-true k 12 u in absurd (true≢false (sym (bounds_between 6 11 k l (omega arith)) ∙ w)))
    (λ u. let m = ltb-false k 12 u in rw t (omega arith, rw (le-ltb (k - 6) 6 (omega arith)) (omega arith))))

wide_byte : (k : ℕ) → 6 ≤ k → kind_byte k ≡ get_or kind_letters (k - 6) 0
unfolding kind_byte
wide_byte k l = rw (le-ltb k 6 l)

pub text_of_lem : (c : ℕ) → bad_code (move_of c) ≡ false → text_of c ≡ token_text (move_of c)
unfolding read_code
text_of_lem c e = rw e

-- each code that the writer takes
text_shaped : (n c : ℕ) → n ≤ 104 → Good 2 (n - 1) c → Shaped (text_of c) (move_of c)
unfolding token_text is_wide letter_place kind_byte
text_shaped n c h g =
    let m : Move = move_of c in
    let q = code_bounds c g.code in
    let x = suffix_text m.turn q.0 (turn_most c) in
    rw (text_of_lem c g.code) (bool_cases (is_wide m.kind)
    (λ s.
    let r = between_bounds 6 11 m.kind s in
    let i = inside 2 (n - 1) m.width (rw s at g.width) in
    let e : move (m.kind - 6 + 6) m.width m.turn ≡ m = move_eq _ m (omega arith) refl refl in
    rw (s, wide_byte m.kind r.0) (subst (Shaped _) e (wide_token (m.kind - 6) (omega arith) (width_text_lem m.width (omega arith) (omega arith)) x)))
    (λ s.
    let f = plain_place m.kind q.1 s in
    let e : move (plain_kind (letter_place m.kind)) 0 m.turn ≡ m = move_eq _ m f.1 (sym (code_width c g.code s)) refl in
    rw s (subst (Shaped _) e (plain_token (letter_place m.kind) f.0 x))))

pub text_spelled : (n c : ℕ) → n ≤ 104 → Good 2 (n - 1) c → Spelled n (text_of c) (move_of c)
text_spelled n c h g = record { shape = text_shaped n c h g; width = width_taken n (move_of c) g.width }

-- ---- a token is the writer's text, or that with a `2` before it

suffix_is : {s : List ℕ} {u : ℕ} → Suffix s u → mark_text u ≡ s
unfolding mark_text
suffix_is quarter_mark = refl
suffix_is half_mark = refl
suffix_is counter_mark = refl

plain_byte : (p : ℕ) → kind_byte (plain_kind p) ≡ get_or kind_letters p 0
unfolding plain_kind kind_byte
plain_byte p =
    bool_cases (ltb p 6) (λ t. rw (t, t))
    (λ t. let l = ltb-false p 6 t in
    let e : p + 6 - 6 ≡ p = omega arith in
    rw t (rw (le-ltb (p + 6) 6 (omega arith), e)))

width_is : {ds : List ℕ} {w : ℕ} → Width ds w → (ds ≡ width_text w) ⊎ ((w ≡ 2) × (ds ≡ 50 ∷ width_text w))
width_is no_digits = inl (sym (width_none refl))
width_is (one_digit a z h) =
    bool_cases (eqb a 2)
    (λ t. let e = eqb-true a 2 t in inr (e, rw (width_none e, e)))
    (λ t. inl (sym (width_one (eqb-false a 2 t) h)))
width_is (two_digits a b z h i) =
    let w : ℕ = a * 10 + b in
    let x : w / 10 ≡ a = omega arith in
    let y : w % 10 ≡ b = omega arith in
    inl (sym (width_two {w = w} (omega arith) (omega arith) ∙ rw (x, y)))
width_is (three_digits a b c z h i j) =
    let w : ℕ = a * 100 + b * 10 + c in
    let x : w / 100 ≡ a = omega arith in
    let y : w / 10 % 10 ≡ b = omega arith in
    let v : w % 10 ≡ c = omega arith in
    inl (sym (width_three {w = w} (omega arith) ∙ rw (x, y, v)))

shaped_text : {t : List ℕ} {m : Move} → Shaped t m → (t ≡ token_text m) ⊎ ((m.width ≡ 2) × (t ≡ 50 ∷ token_text m))
unfolding token_text
shaped_text (plain_token p h x) = inl (sym (rw ((plain_kind_lem p h).plain, plain_byte p, suffix_is x)))
shaped_text (wide_token p {ds} {s} {w} {u} h d x) =
    let e : p + 6 - 6 ≡ p = omega arith in
    let y : kind_byte (p + 6) ≡ get_or kind_letters p 0 = wide_byte (p + 6) (omega arith) ∙ ap (λ (i : ℕ). get_or kind_letters i 0) e in
    rw (wide_of p h, y, suffix_is x)
    (⊎_elim (λ q. inl (ap (λ (l : List ℕ). l ++ (get_or kind_letters p 0 ∷ 119 ∷ s)) q))
    (λ q. inr (q.0, ap (λ (l : List ℕ). l ++ (get_or kind_letters p 0 ∷ 119 ∷ s)) q.1)) (width_is d))

pub two_texts : TwoTexts
two_texts n t c e = rw (text_of_lem c (token_good n t c e).code) (shaped_text (accepts_no_other n t c e).shape)

-- ---- a token is a word: it has a byte, and none that ends a word

pub shaped_some : {t : List ℕ} {m : Move} → Shaped t m → length t ≡ 0 → ⊥
shaped_some (plain_token p h x) e = omega arith
shaped_some (wide_token p {ds} {s} h d x) e = omega (arith, length-append ds (get_or kind_letters p 0 ∷ 119 ∷ s))

digit_word : (d : ℕ) → ends_word [] (48 + d) ≡ false
unfolding ends_word is_space is_sign any
digit_word d = rw (ne_eqb (48 + d) 32 (omega arith), over-between 9 13 (48 + d) (omega arith) (omega arith))

letter_word : (p : ℕ) → ends_word [] (get_or kind_letters p 0) ≡ false
unfolding ends_word is_space is_sign between any
letter_word p = not-true _ (holds_at (λ b. not (ends_word [] b)) kind_letters refl refl p)

suffix_word : {s : List ℕ} {u : ℕ} → Suffix s u → any (ends_word []) s ≡ false
unfolding ends_word is_space is_sign between any
suffix_word quarter_mark = refl
suffix_word half_mark = refl
suffix_word counter_mark = refl

width_word : {ds : List ℕ} {w : ℕ} → Width ds w → any (ends_word []) ds ≡ false
unfolding any
width_word no_digits = refl
width_word (one_digit a z h) = rw (digit_word a)
width_word (two_digits a b z h i) = rw (digit_word a, digit_word b)
width_word (three_digits a b c z h i j) = rw (digit_word a, digit_word b, digit_word c)

w_word : ends_word [] 119 ≡ false
unfolding ends_word is_space is_sign between any
w_word = refl

pub shaped_word : {t : List ℕ} {m : Move} → Shaped t m → any (ends_word []) t ≡ false
unfolding any
shaped_word (plain_token p h x) = rw (letter_word p) (suffix_word x)
shaped_word (wide_token p {ds} {s} h d x) = any_append (ends_word []) ds (get_or kind_letters p 0 ∷ 119 ∷ s) (width_word d) (rw (letter_word p, w_word) (suffix_word x))
