-- The tokens that are read are those of the grammar, and no others.
use Prim.Native.Nat.{ℕ, suc, ◌+◌, ◌-◌, ◌*◌, ◌≤◌, ◌<◌}
use mathlib.Core.Path.{◌≡◌, refl, sym, ap, subst, ◌∙◌}
use mathlib.Core.Bool.{Bool, true, false, true≢false, not}
use mathlib.Core.List.{List, [], ◌∷◌, ◌++◌}
use native.Mathlib.Omega.{arith}
use native.Mathlib.Numerals.{add-one, add-two}
use lib.ListN.{length, get_or, take, drop, length-append, length-drop, take-append-drop}
use lib.Seq.{drop-cons, get_or-drop, get_or-append_seam, get_or-append-add}
use lib.Dec.{ltb, eqb}
use borrow.Author.Tests.{eq-eqb, ne_eqb, lt-ltb, eqb-true, not-true}
use Rattle.ground.specs.Choice.{pick, any, position, between}
use Rattle.ground.proofs.ChoiceLaws.{any_below, bool_cases, bounds_between, position_found, tested}
use Rattle.generic_cube.specs.declared.Move.{Move}
use Rattle.generic_cube.specs.Code.{move, move_of, code_of, is_wide, bad_width_in}
use Rattle.generic_cube.proofs.AllMovesLaws.{holds_at}
use Rattle.generic_cube.proofs.CodeLaws.{code_move, move_code, inside, inside_not}
use Rattle.std.specs.Prelude.{Ok, Err}
use Rattle.tokens.specs.Token.{fault, digit_of, is_digit, digits_of, number_of, token_width, kind_letters, letter_of, letter_at, is_wide_token, plain_kind, mark_of, suffix_at, token_end, token_move, bad_token_width, unless_fault, read_behind, read_token}
use Rattle.tokens.proofs.TokenLaws.{digit_back, plain_kind_lem, wide_of, wide_letter, parts_digits, parts_letter, parts_w, parts_width, end_left, Formed, token_code, wide_move, plain_move, suffix_wide, suffix_plain}
use Rattle.theorems.specs.Notation.{Suffix, quarter_mark, half_mark, counter_mark, Width, no_digits, one_digit, two_digits, three_digits, Shaped, plain_token, wide_token, WidthTaken, Spelled, Accepts, AcceptsNoOther}

-- ---- a byte and what it reads as

pub digit_of_lem : (d : ℕ) → d < 10 → digit_of (48 + d) ≡ d
unfolding digit_of
digit_of_lem d h = rw (bounds_between 48 57 (48 + d) (omega arith) (omega arith)) (omega arith)

pub digit_is : (d : ℕ) → d < 10 → is_digit (48 + d) ≡ true
unfolding is_digit
digit_is d h = rw (digit_of_lem d h, ne_eqb d 10 (omega arith))

-- a letter is at its place, and is no digit
pub letter_place_lem : (p : ℕ) → p < 9 → letter_of (get_or kind_letters p 0) ≡ p
unfolding letter_of position any_below
letter_place_lem p h = eqb-true _ _ (tested (λ i. eqb (letter_of (get_or kind_letters i 0)) i) 9 refl p h)

pub letter_is : (p : ℕ) → is_digit (get_or kind_letters p 0) ≡ false
unfolding is_digit digit_of between any
letter_is p = not-true _ (holds_at (λ b. not (is_digit b)) kind_letters refl refl p)

-- a suffix is read as its turn, to its end, and is no `w`
pub record Marked (s : List ℕ) (u : ℕ) : Type 0 where
  pub size : (mark_of (get_or s 0 0)).size ≡ length s
  pub turn : (mark_of (get_or s 0 0)).turn ≡ u
  pub other : eqb (get_or s 0 0) 119 ≡ false

pub marked : {s : List ℕ} {u : ℕ} → Suffix s u → Marked s u
unfolding mark_of
marked quarter_mark = record { size = refl; turn = refl; other = refl }
marked half_mark = record { size = refl; turn = refl; other = refl }
marked counter_mark = record { size = refl; turn = refl; other = refl }

-- ---- a token of the grammar is read

-- k digits at the front that write w
pub record WidthRead (t : List ℕ) (k w : ℕ) : Type 0 where
  pub count : digits_of t ≡ k
  pub few : k ≤ 3
  pub first : get_or t 0 0 ≡ 48 → ⊥
  pub value : token_width t k ≡ w

-- a byte that is no digit is no 0
no_zero : (b : ℕ) → is_digit b ≡ false → b ≡ 48 → ⊥
unfolding is_digit digit_of between
no_zero b h e = true≢false (sym (ap is_digit e) ∙ h)

pub width_read : (l : List ℕ) {ds : List ℕ} {w : ℕ} → is_digit (get_or l 0 0) ≡ false → Width ds w → WidthRead (ds ++ l) (length ds) w
unfolding digits_of token_width number_of
width_read l g no_digits = record { count = simp g; few = omega arith; first = no_zero (get_or l 0 0) g; value = refl }
width_read l g (one_digit a z h) =
    record {
      count = simp (digit_is a h, g);
      few = omega arith;
      first = λ e. let q : 48 + a ≡ 48 = e in omega arith;
      value = digit_of_lem a h;
    }
width_read l g (two_digits a b z h i) =
    record {
      count = simp (digit_is a h, digit_is b i, g);
      few = omega arith;
      first = λ e. let q : 48 + a ≡ 48 = e in omega arith;
      value = rw (digit_of_lem a h, digit_of_lem b i);
    }
width_read l g (three_digits a b c z h i j) =
    record {
      count = simp (digit_is a h, digit_is b i, digit_is c j, g);
      few = omega arith;
      first = λ e. let q : 48 + a ≡ 48 = e in omega arith;
      value = rw (digit_of_lem a h, digit_of_lem b i, digit_of_lem c j);
    }

-- what the reader finds in a token of the grammar, k digits at its front, with the move
pub record ReadAs (t : List ℕ) (k : ℕ) (m : Move) : Type 0 where
  pub count : digits_of t ≡ k
  pub form : Formed t k
  pub is : token_move t k ≡ m

module _ (n : ℕ) (t : List ℕ) (k : ℕ) where
  -- the width alone decides
  module _ (f : Formed t k) where
    width_test : bad_token_width n t k ≡ bad_width_in 2 (n - 1) (token_move t k)
    unfolding bad_token_width
    width_test =
        bool_cases (is_wide_token t k)
        (λ w. rw (wide_move t k w, w, wide_of (letter_at t k) (wide_letter t k w).0))
        (λ w. rw (plain_move t k w, w, (plain_kind_lem (letter_at t k) f.letter).plain))

    formed_reads : read_behind n t k ≡ pick (bad_width_in 2 (n - 1) (token_move t k)) (Err (fault 5 0)) (Ok (code_of (token_move t k)))
    unfolding read_behind unless_fault
    formed_reads = rw (parts_digits t k f.first f.few, parts_letter t k f.letter f.plain, parts_w t k f.plain, end_left t k f.end, width_test)

plain_reads : (p : ℕ) {s : List ℕ} {u : ℕ} → p < 9 → Suffix s u → ReadAs (get_or kind_letters p 0 ∷ s) 0 (move (plain_kind p) 0 u)
unfolding digits_of is_wide_token
plain_reads p {s} {u} h x =
    let t : List ℕ = get_or kind_letters p 0 ∷ s in
    let z = marked x in
    let w : is_wide_token t 0 ≡ false = bool_cases (ltb (letter_at t 0) 6) (λ a. rw (a, z.other)) (λ a. rw a) in
    record {
      count = rw (letter_is p);
      form = record {
        first = no_zero (get_or kind_letters p 0) (letter_is p);
        few = omega arith;
        letter = rw (letter_place_lem p h) h;
        plain = λ e. refl;
        end = sym (rw (suffix_plain t 0 w, z.size) (omega arith));
      };
      is = plain_move t 0 w ∙ rw (suffix_plain t 0 w, letter_place_lem p h, z.turn);
    }

wide_reads : (p : ℕ) {ds s : List ℕ} {w u : ℕ} → p < 6 → Width ds w → Suffix s u
    → ReadAs (ds ++ (get_or kind_letters p 0 ∷ 119 ∷ s)) (length ds) (move (p + 6) w u)
unfolding is_wide_token
wide_reads p {ds} {s} {w} {u} h d x =
    let rest : List ℕ = get_or kind_letters p 0 ∷ 119 ∷ s in
    let t : List ℕ = ds ++ rest in
    let k : ℕ = length ds in
    let z = marked x in
    let r = width_read rest (letter_is p) d in
    let g0 : get_or t k 0 ≡ get_or kind_letters p 0 = get_or-append_seam ds (get_or kind_letters p 0) (119 ∷ s) 0 in
    let g1 : get_or t (k + 1) 0 ≡ 119 = get_or-append-add ds rest 1 0 in
    let g2 : get_or t (k + 2) 0 ≡ get_or s 0 0 = get_or-append-add ds rest 2 0 in
    let l : letter_at t k ≡ p = ap letter_of g0 ∙ letter_place_lem p (omega arith) in
    let v : is_wide_token t k ≡ true = rw (l, lt-ltb p 6 h, g1) in
    let m : suffix_at t k ≡ k + 2 = suffix_wide t k v in
    let e : length t ≡ k + 2 + length s = length-append ds rest ∙ omega arith in
    record {
      count = r.count;
      form = record {
        first = r.first;
        few = r.few;
        letter = rw l (omega arith);
        plain = λ y. absurd (true≢false (sym v ∙ y));
        end = e ∙ sym (rw (m, g2, z.size));
      };
      is = wide_move t k v ∙ rw (l, r.value, m, g2, z.turn);
    }

-- of the grammar, and its width taken or not
read_as : {t : List ℕ} {k : ℕ} {m : Move} (n : ℕ) → ReadAs t k m → read_token n t ≡ pick (bad_width_in 2 (n - 1) m) (Err (fault 5 0)) (Ok (code_of m))
unfolding read_token
read_as {t} {k} {m} n r =
    ap (read_behind n t) r.count ∙ formed_reads n t k r.form ∙ ap (λ (x : Move). pick (bad_width_in 2 (n - 1) x) (Err (fault 5 0)) (Ok (code_of x))) r.is

pub shaped_reads : {t : List ℕ} {m : Move} (n : ℕ) → Shaped t m → read_token n t ≡ pick (bad_width_in 2 (n - 1) m) (Err (fault 5 0)) (Ok (code_of m))
shaped_reads n (plain_token p h x) = read_as n (plain_reads p h x)
shaped_reads n (wide_token p h d x) = read_as n (wide_reads p h d x)

-- the reader's test of a width is the rules'
pub width_taken : (n : ℕ) (m : Move) → bad_width_in 2 (n - 1) m ≡ false → WidthTaken n m
width_taken n m e w = let i = inside 2 (n - 1) m.width (rw w at e) in (omega arith, omega arith)

pub taken_width : (n : ℕ) (m : Move) → WidthTaken n m → bad_width_in 2 (n - 1) m ≡ false
taken_width n m h =
    bool_cases (is_wide m.kind)
    (λ w. let i = h w in rw w (inside_not 2 (n - 1) m.width (omega arith) (omega arith)))
    (λ w. rw w)

pub width_refused : (n : ℕ) (m : Move) → (WidthTaken n m → ⊥) → bad_width_in 2 (n - 1) m ≡ true
width_refused n m h = bool_cases (bad_width_in 2 (n - 1) m) (λ e. e) (λ e. absurd (h (width_taken n m e)))

pub accepts : Accepts
accepts n t c s =
    shaped_reads n s.shape ∙ ap (λ (b : Bool). pick b (Err (fault 5 0)) (Ok (code_of (move_of c)))) (taken_width n (move_of c) s.width) ∙ ap Ok (code_move c)

-- ---- a token that is read is of the grammar

pub half_is : (b : ℕ) → b ≡ 50 → Suffix (b ∷ []) 2
half_is b e = subst (λ (x : ℕ). Suffix (x ∷ []) 2) (sym e) half_mark

pub counter_is : (b : ℕ) → b ≡ 39 → Suffix (b ∷ []) 3
counter_is b e = subst (λ (x : ℕ). Suffix (x ∷ []) 3) (sym e) counter_mark

-- a suffix with nothing after it
suffix_back : (l : List ℕ) → length l ≡ (mark_of (get_or l 0 0)).size → Suffix l (mark_of (get_or l 0 0)).turn
unfolding mark_of
suffix_back [] h = quarter_mark
suffix_back (b ∷ []) h =
    bool_cases (eqb b 50)
    (λ t. rw t (half_is b (eqb-true b 50 t)))
    (λ t. bool_cases (eqb b 39)
    (λ s. rw (t, s) (counter_is b (eqb-true b 39 s)))
    (λ s. let z : ◌≡◌ {A = ℕ} 1 0 = rw (t, s) at h in absurd (omega arith)))
suffix_back (b ∷ x ∷ l) h =
    bool_cases (eqb b 50)
    (λ t. let z : suc (suc (length l)) ≡ 1 = rw t at h in absurd (omega arith))
    (λ t. bool_cases (eqb b 39)
    (λ s. let z : suc (suc (length l)) ≡ 1 = rw (t, s) at h in absurd (omega arith))
    (λ s. let z : suc (suc (length l)) ≡ 0 = rw (t, s) at h in absurd (omega arith)))

-- the suffix of a token, behind its letter or its `w`, at i
suffix_at_lem : (t : List ℕ) (i : ℕ) → length t ≡ i + (mark_of (get_or t i 0)).size → Suffix (drop i t) (mark_of (get_or t i 0)).turn
suffix_at_lem t i e =
    let g : get_or (drop i t) 0 0 ≡ get_or t i 0 = get_or-drop i t 0 0 ∙ ap (λ (j : ℕ). get_or t j 0) (omega arith) in
    let l : length (drop i t) ≡ (mark_of (get_or (drop i t) 0 0)).size = rw g (length-drop i t ∙ omega (arith, e)) in
    rw g at (suffix_back (drop i t) l)

-- a letter is what stands at its place
pub letter_back : (b : ℕ) → letter_of b < 9 → get_or kind_letters (letter_of b) 0 ≡ b
unfolding letter_of
letter_back b h = position_found b kind_letters h

-- the digits at the front, by their number
abbrev pub Digit : List ℕ → ℕ → Type 0
Digit t i = digit_of (get_or t i 0) ≡ 10 → ⊥

pub is_a_digit : (t : List ℕ) (i : ℕ) → is_digit (get_or t i 0) ≡ true → Digit t i
unfolding is_digit
is_a_digit t i e = λ z. true≢false (sym (rw (eq-eqb _ _ z) at e))

front_one : (t : List ℕ) → Digit t 0 → take 1 t ≡ get_or t 0 0 ∷ []
unfolding digit_of between
front_one [] h = absurd (h refl)
front_one (a ∷ t) h = refl

front_two : (t : List ℕ) → Digit t 1 → take 2 t ≡ get_or t 0 0 ∷ get_or t 1 0 ∷ []
unfolding digit_of between
front_two [] h = absurd (h refl)
front_two (a ∷ []) h = absurd (h refl)
front_two (a ∷ b ∷ t) h = refl

front_three : (t : List ℕ) → Digit t 2 → take 3 t ≡ get_or t 0 0 ∷ get_or t 1 0 ∷ get_or t 2 0 ∷ []
unfolding digit_of between
front_three [] h = absurd (h refl)
front_three (a ∷ []) h = absurd (h refl)
front_three (a ∷ b ∷ []) h = absurd (h refl)
front_three (a ∷ b ∷ c ∷ t) h = refl

positive : (x : ℕ) → (x ≡ 0 → ⊥) → 0 < x
positive x n = omega arith

-- the digits at the front, the first not 0, are a width
pub width_back : (t : List ℕ) → digits_of t ≤ 3 → (get_or t 0 0 ≡ 48 → ⊥) → Width (take (digits_of t) t) (token_width t (digits_of t))
unfolding digits_of token_width number_of
width_back t h z =
    let x = digit_of (get_or t 0 0) in
    let y = digit_of (get_or t 1 0) in
    let v = digit_of (get_or t 2 0) in
    bool_cases (is_digit (get_or t 0 0)) (λ a.
    let d0 = digit_back (get_or t 0 0) (is_a_digit t 0 a) in
    let p0 : 0 < x = positive x (λ q. z (d0.0 ∙ ap (λ (i : ℕ). 48 + i) q)) in
    bool_cases (is_digit (get_or t 1 0)) (λ b.
    let d1 = digit_back (get_or t 1 0) (is_a_digit t 1 b) in
    bool_cases (is_digit (get_or t 2 0)) (λ c.
    let d2 = digit_back (get_or t 2 0) (is_a_digit t 2 c) in
    let l : take 3 t ≡ (48 + x) ∷ (48 + y) ∷ (48 + v) ∷ [] = front_three t (is_a_digit t 2 c) ∙ ap (λ (i : ℕ). i ∷ get_or t 1 0 ∷ get_or t 2 0 ∷ []) d0.0
    ∙ ap (λ (i : ℕ). (48 + x) ∷ i ∷ get_or t 2 0 ∷ []) d1.0 ∙ ap (λ (i : ℕ). (48 + x) ∷ (48 + y) ∷ i ∷ []) d2.0 in
    bool_cases (is_digit (get_or t 3 0))
    (λ d. absurd (let q : 4 ≤ 3 = rw (a, b, c, d) at h in omega arith))
    (λ d. rw (a, b, c, d) (subst (λ (ds : List ℕ). Width ds (x * 100 + y * 10 + v)) (sym l) (three_digits x y v p0 d0.1 d1.1 d2.1))))
    (λ c.
    let l : take 2 t ≡ (48 + x) ∷ (48 + y) ∷ [] = front_two t (is_a_digit t 1 b) ∙ ap (λ (i : ℕ). i ∷ get_or t 1 0 ∷ []) d0.0 ∙ ap (λ (i : ℕ). (48 + x) ∷ i ∷ []) d1.0 in
    rw (a, b, c) (subst (λ (ds : List ℕ). Width ds (x * 10 + y)) (sym l) (two_digits x y p0 d0.1 d1.1))))
    (λ b.
    let l : take 1 t ≡ (48 + x) ∷ [] = front_one t (is_a_digit t 0 a) ∙ ap (λ (i : ℕ). i ∷ []) d0.0 in
    rw (a, b) (subst (λ (ds : List ℕ). Width ds x) (sym l) (one_digit x p0 d0.1))))
    (λ a. rw a no_digits)

pub split_plain : (t : List ℕ) → 1 ≤ length t → t ≡ get_or t 0 0 ∷ drop 1 t
split_plain t h = drop-cons t 0 0 h

pub split_wide : (t : List ℕ) (k : ℕ) → k + 2 ≤ length t → get_or t (k + 1) 0 ≡ 119 → t ≡ take k t ++ (get_or t k 0 ∷ 119 ∷ drop (k + 2) t)
split_wide t k h e =
    let d : drop (suc k) t ≡ get_or t (k + 1) 0 ∷ drop (k + 2) t = rw (add-one k, add-two k) (drop-cons t (suc k) 0 (omega arith)) in
    sym (take-append-drop k t)
    ∙ ap (λ (x : List ℕ). take k t ++ x) (drop-cons t k 0 (omega arith) ∙ ap (λ (x : List ℕ). get_or t k 0 ∷ x) (d ∙ ap (λ (b : ℕ). b ∷ drop (k + 2) t) e))

shaped_as : {t t' : List ℕ} {m m' : Move} → t' ≡ t → m' ≡ m → Shaped t m → Shaped t' m'
shaped_as {t} {t'} {m} {m'} e d s = subst (λ (x : List ℕ). Shaped x m') (sym e) (subst (Shaped t) (sym d) s)

pub formed_shaped : (t : List ℕ) → Formed t (digits_of t) → Shaped t (token_move t (digits_of t))
formed_shaped t p =
    let k : ℕ = digits_of t in
    bool_cases (is_wide_token t k)
    (λ w.
    let l = wide_letter t k w in
    let m : suffix_at t k ≡ k + 2 = suffix_wide t k w in
    let e : length t ≡ k + 2 + (mark_of (get_or t (k + 2) 0)).size = rw m at p.end in
    let v : token_move t k ≡ move (letter_at t k + 6) (token_width t k) (mark_of (get_or t (k + 2) 0)).turn = rw m at (wide_move t k w) in
    shaped_as (split_wide t k (omega arith) l.1 ∙ ap (λ (b : ℕ). take k t ++ (b ∷ 119 ∷ drop (k + 2) t)) (sym (letter_back (get_or t k 0) (omega (arith, l.0)))))
    v
    (wide_token (letter_at t k) l.0 (width_back t p.few p.first) (suffix_at_lem t (k + 2) e)))
    (λ w.
    let z : k ≡ 0 = p.plain w in
    let a : letter_at t 0 < 9 = rw z at p.letter in
    let u : is_wide_token t 0 ≡ false = rw z at w in
    let m : suffix_at t 0 ≡ 1 = suffix_plain t 0 u in
    let q : length t ≡ token_end t 0 = rw z at p.end in
    let e : length t ≡ 1 + (mark_of (get_or t 1 0)).size = rw m at q in
    let v : token_move t 0 ≡ move (plain_kind (letter_at t 0)) 0 (mark_of (get_or t 1 0)).turn = rw m at (plain_move t 0 u) in
    shaped_as (split_plain t (omega arith) ∙ ap (λ (b : ℕ). b ∷ drop 1 t) (sym (letter_back (get_or t 0 0) a)))
    (ap (token_move t) z ∙ v)
    (plain_token (letter_at t 0) a (suffix_at_lem t 1 e)))

-- a code of it is its move's
suffix_turn : {s : List ℕ} {u : ℕ} → Suffix s u → u ≤ 3
suffix_turn quarter_mark = omega arith
suffix_turn half_mark = omega arith
suffix_turn counter_mark = omega arith

shaped_move : {t : List ℕ} {m : Move} → Shaped t m → move_of (code_of m) ≡ m
shaped_move (plain_token p h x) = move_code _ (omega (arith, (plain_kind_lem p h).most)) (suffix_turn x)
shaped_move (wide_token p h d x) = move_code _ (omega arith) (suffix_turn x)

pub accepts_no_other : AcceptsNoOther
unfolding read_token
accepts_no_other n t c e =
    let k : ℕ = digits_of t in
    let q = token_code n t k e in
    let s = formed_shaped t q.0.form in
    let w = width_taken n (token_move t k) (sym (width_test n t k q.0.form) ∙ parts_width t k n q.0.width) in
    subst (Spelled n t) (sym (shaped_move s) ∙ ap move_of (sym q.1)) (record { shape = s; width = w })
