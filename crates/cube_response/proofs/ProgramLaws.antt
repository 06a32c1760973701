-- Laws of lines, of the size and of numbers in decimal; and that what lies behind the first 8,194 bytes changes nothing.
use Prim.Native.Nat.{ℕ, zero, suc, ◌+◌, ◌-◌, ◌*◌, ◌/◌, ◌%◌, ◌^◌, ◌≤◌, ◌<◌}
use mathlib.Core.Path.{◌≡◌, refl, sym, ap, subst, ◌∙◌}
use mathlib.Core.Bool.{true, false, not, ◌&&◌, true≢false}
use mathlib.Core.List.{List, [], ◌∷◌, ◌++◌}
use native.Mathlib.Omega.{arith}
use native.Mathlib.Nat.{pow-suc, one-le-pow, pow-le-pow_right, zero-add, suc-add}
use lib.Dec.{leb, ltb, eqb}
use Rattle.std.specs.Prelude.{◌==◌, unwrap_or}
use Rattle.std.specs.List.{position_or_len}
use Rattle.std.proofs.lemmas.List.Sums.{prefix_len-le-length}
use Rattle.cube_response.specs.Inner.{line_feed}
use lib.ListN.{length, get_or, take, drop, length-drop, drop_of_length-le}
use lib.Seq.{take_all, take-take, length-take-le}
use borrow.Author.Tests.{eq-eqb, ne_eqb, lt-ltb, le-ltb, lt-leb, le-leb, leb-true, ltb-false, eqb-true, eqb-false, not-true, not-false}
use Rattle.ground.proofs.ChoiceLaws.{any_below, bool_cases, between_bounds, position_most, tested, less_cases}
use Rattle.ground.specs.Choice.{position, between}
use Rattle.generic_cube.specs.Code.{outside}
use Rattle.tokens.specs.Token.{digit_of, is_digit, digits_of, number_of}
use Rattle.tokens.proofs.TokenLaws.{digit_back}
use Rattle.tokens.specs.Words.{tokens_of}
use Rattle.scramble_parser.specs.Parse.{reading}
use Rattle.cube_response.specs.Program.{first_line, after_line, line_two, too_long, too_long_text, refused_text, feed, is_size, size_of, decimal_in, decimal, scramble_answer, answer_to, response}
use Rattle.io.specs.Digits.{hex_digit_ascii, last_digits, IsDigitCount}

-- ---- where a line ends

-- the first line feed, or the input's end
places : (xs : List ℕ) → position_or_len (λ b. b == 10) xs ≡ position 10 xs
unfolding position
places [] = refl
places (x ∷ xs) = bool_cases (eqb x 10) (λ t. rw t) (λ t. rw (t, places xs) (omega arith))

pub line_feed_or_end : (xs : List ℕ) → unwrap_or (line_feed xs) (length xs) ≡ position 10 xs
line_feed_or_end xs =
    bool_cases (ltb (position_or_len (λ b. b == 10) xs) (length xs)) (λ t. rw t (places xs))
    (λ t. rw t (omega (arith, ltb-false _ _ t, prefix_len-le-length (λ b. not (b == 10)) xs, places xs)))

pub line_within : (input : List ℕ) {end : ℕ} → end ≡ position 10 input → end ≤ length input
line_within input e = omega (arith, position_most 10 input)

pub line_is : (input : List ℕ) {end : ℕ} → end ≡ position 10 input → take end input ≡ first_line input
unfolding first_line
line_is input e = ap (λ k. take k input) e

-- a part up to the end is all that is left
to_end : (k : ℕ) (xs : List ℕ) → take (length xs - k) (drop k xs) ≡ drop k xs
to_end k xs = take_all (length xs - k) (drop k xs) (omega (arith, length-drop k xs))

behind_is : (input : List ℕ) {end : ℕ} → end ≡ position 10 input → drop (end + 1) input ≡ after_line input
unfolding after_line
behind_is input e = ap (λ k. drop (k + 1) input) e

-- what the code takes for what stands behind a line: from the byte after it, or nothing
pub behind_feed : (input : List ℕ) {end : ℕ} → end ≡ position 10 input → take (length input - (end + 1)) (drop (end + 1) input) ≡ after_line input
behind_feed input {end} e = to_end (end + 1) input ∙ behind_is input e

pub behind_none : (input : List ℕ) {end : ℕ} → end ≡ position 10 input → length input ≤ end → take (length input - end) (drop end input) ≡ after_line input
behind_none input {end} e h =
    let m : length input ≤ end + 1 = omega arith in
    to_end end input ∙ drop_of_length-le input h ∙ sym (drop_of_length-le input m) ∙ behind_is input e

pub response_is : (input : List ℕ) {one rest two : List ℕ} → one ≡ first_line input → rest ≡ after_line input → two ≡ first_line rest → response input ≡ answer_to one two
unfolding response
response_is input {one} {rest} {two} a b c =
    ap (λ (x : List ℕ). answer_to x (line_two input)) (sym a) ∙ ap (answer_to one) (ap first_line (sym b) ∙ sym c)

-- ---- a number in decimal

small_in : (steps x : ℕ) → x < 10 → decimal_in steps x ≡ (48 + x) ∷ []
unfolding decimal_in
small_in zero x h = refl
small_in (suc steps) x h = rw (lt-ltb x 10 h)

two_in : (steps x : ℕ) → x ≤ steps → 10 ≤ x → x < 100 → decimal_in steps x ≡ (48 + x / 10) ∷ (48 + x % 10) ∷ []
unfolding decimal_in
two_in zero x s l h = absurd (omega arith)
two_in (suc steps) x s l h =
    rw (le-ltb x 10 l) (ap (λ (ds : List ℕ). ds ++ ((48 + x % 10) ∷ [])) (small_in steps (x / 10) (omega arith)))

glyph_is : (d : ℕ) → d < 10 → hex_digit_ascii d ≡ 48 + d
glyph_is d h = rw (lt-ltb d 10 h)

digits_in : (j steps x : ℕ) → x ≤ steps → x < 10 ^ suc j → (0 < j → 10 ^ j ≤ x) → last_digits 10 (suc j) x ≡ decimal_in steps x
unfolding decimal_in
digits_in zero steps x s h l =
    let k : x < 10 = h in
    let e : x % 10 ≡ x = omega arith in
    ap (λ (d : ℕ). d ∷ []) (glyph_is (x % 10) (omega arith) ∙ ap (λ (y : ℕ). 48 + y) e) ∙ sym (small_in steps x k)
digits_in (suc i) zero x s h l = absurd (omega (arith, l (omega arith), one-le-pow (suc i) 10 (omega arith)))
digits_in (suc i) (suc steps) x s h l =
    let p = pow-suc 10 i in
    let q = pow-suc 10 (suc i) in
    let o = one-le-pow i 10 (omega arith) in
    let g : 10 ^ suc i ≤ x = l (omega arith) in
    let r = digits_in i steps (x / 10) (omega arith) (omega arith) (λ z. omega arith) in
    rw (le-ltb x 10 (omega arith))
    (ap (λ (ds : List ℕ). ds ++ (hex_digit_ascii (x % 10) ∷ [])) r
    ∙ ap (λ (d : ℕ). decimal_in steps (x / 10) ++ (d ∷ [])) (glyph_is (x % 10) (omega arith)))

-- the fewest digits that hold a number are its decimal text
pub fewest_decimal : (x k : ℕ) → IsDigitCount 10 1 x k → last_digits 10 k x ≡ decimal x
unfolding decimal
fewest_decimal x zero f = absurd (omega (arith, f.0))
fewest_decimal x (suc j) f =
    let e : suc j - 1 ≡ j = omega arith in
    digits_in j x x (omega arith) f.1 (λ h. subst (λ (m : ℕ). 10 ^ m ≤ x) e (f.2 (omega arith)))

-- a number of 64 bits has at most 20
pub fewest_few : (x k : ℕ) → x < 2 ^ 64 → IsDigitCount 10 1 x k → k ≤ 20
fewest_few x k h f =
    less_cases 20 k
    (λ m. let l = f.2 (omega arith) in
    let p = pow-le-pow_right {n = 10} (omega arith) {i = 20} {j = k - 1} (omega arith) in
    absurd (omega arith))
    (λ m. m)

-- ---- the size

-- a line that writes a size
pub record Size (one : List ℕ) (n : ℕ) : Type 0 where
  pub digits_all : digits_of one ≡ length one
  pub few : (1 ≤ length one) × (length one ≤ 2)
  pub no_zero : get_or one 0 0 ≡ 48 → ⊥
  pub is : n ≡ number_of (length one) one
  pub most : n ≤ 20

size_of_lem : (one : List ℕ) → (size_of one ≡ 0 → ⊥) → Size one (size_of one)
unfolding size_of is_size
size_of_lem one z =
    bool_cases (eqb (digits_of one) (length one)) (λ a.
    bool_cases (between 1 2 (length one)) (λ b.
    bool_cases (eqb (get_or one 0 0) 48) (λ c. absurd ((rw (a, b, c) at z) refl)) (λ c.
    bool_cases (leb (number_of (length one) one) 20)
    (λ d. rw (a, b, c, d) (record {
      digits_all = eqb-true _ _ a;
      few = between_bounds 1 2 (length one) b;
      no_zero = eqb-false _ _ c;
      is = refl;
      most = leb-true _ _ d;
    }))
    (λ d. absurd ((rw (a, b, c, d) at z) refl))))
    (λ b. absurd ((rw (a, b) at z) refl)))
    (λ a. absurd ((rw a at z) refl))

-- the steps by which a line is read
module _ (one : List ℕ) {k : ℕ} (d : k ≡ digits_of one) where
  pub size_other : (k ≡ length one → ⊥) → 0 ≡ size_of one
  unfolding size_of is_size
  size_other z = rw (← d, ne_eqb k (length one) z)

  module _ (e : k ≡ length one) where
    pub size_long : outside 1 2 k ≡ true → 0 ≡ size_of one
    unfolding size_of is_size outside
    size_long t = rw (← d, ← e, eq-eqb k k refl, not-true (between 1 2 k) t)

    module _ (o : outside 1 2 k ≡ false) where
      few_digits : between 1 2 k ≡ true
      unfolding outside
      few_digits = not-false (between 1 2 k) o

      pub size_zero : get_or one 0 0 ≡ 48 → 0 ≡ size_of one
      unfolding size_of is_size
      size_zero t = rw (← d, ← e, eq-eqb k k refl, few_digits, eq-eqb (get_or one 0 0) 48 t)

      module _ (z : get_or one 0 0 ≡ 48 → ⊥) {n : ℕ} (q : n ≡ number_of k one) where
        pub size_large : 20 < n → 0 ≡ size_of one
        unfolding size_of is_size
        size_large h = rw (← d, ← e, eq-eqb k k refl, few_digits, ne_eqb (get_or one 0 0) 48 z, ← q, lt-leb n 20 h)

        pub size_is : n ≤ 20 → n ≡ size_of one
        unfolding size_of is_size
        size_is h = rw (← d, ← e, eq-eqb k k refl, few_digits, ne_eqb (get_or one 0 0) 48 z, ← q, le-leb n 20 h)

-- a number above 20 is no size
pub size_past : (one : List ℕ) → 20 < number_of (length one) one → size_of one ≡ 0
unfolding size_of is_size
size_past one h =
    rw (lt-leb (number_of (length one) one) 20 h)
    (bool_cases (eqb (digits_of one) (length one) && between 1 2 (length one) && not (eqb (get_or one 0 0) 48)) (λ t. rw t refl) (λ t. rw t refl))

pub size_most : {n : ℕ} (one : List ℕ) → n ≡ size_of one → (n ≡ 0 → ⊥) → n ≤ 20
size_most one e z = omega (arith, (size_of_lem one (λ q. z (e ∙ q))).most)

-- each size's text is read as that size
pub size_read : (n : ℕ) → 1 ≤ n → n ≤ 20 → size_of (decimal n) ≡ n
unfolding size_of is_size decimal decimal_in digits_of is_digit digit_of number_of between any_below
size_read zero l h = absurd (omega arith)
size_read (suc i) l h = eqb-true _ _ (tested (λ k. eqb (size_of (decimal (suc k))) (suc k)) 20 refl i (omega arith))

is_digit_lem : (b : ℕ) → is_digit b ≡ true → digit_of b ≡ 10 → ⊥
unfolding is_digit
is_digit_lem b e z = true≢false (sym (rw (eq-eqb _ _ z) at e))

-- and no other line is read as one
size_text : (one : List ℕ) (n : ℕ) → Size one n → one ≡ decimal n
unfolding decimal digits_of number_of
size_text [] n s = absurd (omega (arith, s.few.0))
size_text (a ∷ []) n s =
    bool_cases (is_digit a)
    (λ t. let d = digit_back a (is_digit_lem a t) in
    let e : n ≡ digit_of a = s.is in
    ap (λ (x : ℕ). x ∷ []) (d.0 ∙ ap (λ (x : ℕ). 48 + x) (sym e)) ∙ sym (small_in n n (omega (arith, d.1))))
    (λ t. absurd (let z : ◌≡◌ {A = ℕ} 0 1 = rw t at s.digits_all in omega arith))
size_text (a ∷ b ∷ []) n s =
    bool_cases (is_digit a)
    (λ t. bool_cases (is_digit b)
    (λ u. let d = digit_back a (is_digit_lem a t) in
    let f = digit_back b (is_digit_lem b u) in
    let e : n ≡ digit_of a * 10 + digit_of b = s.is in
    let o : (digit_of a ≡ 0 → ⊥) = λ q. s.no_zero (d.0 ∙ ap (λ (x : ℕ). 48 + x) q) in
    let x : a ≡ 48 + n / 10 = omega (arith, d.0, d.1, f.1) in
    let y : b ≡ 48 + n % 10 = omega (arith, f.0, f.1, d.1) in
    ap (λ (v : ℕ). v ∷ b ∷ []) x ∙ ap (λ (v : ℕ). (48 + n / 10) ∷ v ∷ []) y
    ∙ sym (two_in n n (omega arith) (omega (arith, e, o)) (omega (arith, s.most))))
    (λ u. absurd (let z : ◌≡◌ {A = ℕ} 1 2 = rw (t, u) at s.digits_all in omega arith)))
    (λ t. absurd (let z : ◌≡◌ {A = ℕ} 0 2 = rw t at s.digits_all in omega arith))
size_text (a ∷ b ∷ c ∷ l) n s = absurd (omega (arith, s.few.1))

pub size_only : (one : List ℕ) → (size_of one ≡ 0 → ⊥) → one ≡ decimal (size_of one)
size_only one z = size_text one (size_of one) (size_of_lem one z)

-- ---- two lines

module _ (one two : List ℕ) where
  pub long_one : 4096 < length one → answer_to one two ≡ too_long_text
  unfolding answer_to too_long
  long_one h = rw (lt-ltb 4096 (length one) h)

  pub long_two : length one ≤ 4096 → 4096 < length two → answer_to one two ≡ too_long_text
  unfolding answer_to too_long
  long_two a h = rw (le-ltb 4096 (length one) a, lt-ltb 4096 (length two) h)

  pub no_size : length one ≤ 4096 → length two ≤ 4096 → size_of one ≡ 0 → answer_to one two ≡ refused_text ++ (decimal 1 ++ feed)
  unfolding answer_to too_long
  no_size a b e = rw (le-ltb 4096 (length one) a, le-ltb 4096 (length two) b, e)

  pub a_size : length one ≤ 4096 → length two ≤ 4096 → (n : ℕ) → n ≡ size_of one → (n ≡ 0 → ⊥) → answer_to one two ≡ scramble_answer n (reading n (tokens_of two))
  unfolding answer_to too_long
  a_size a b n e z = rw (le-ltb 4096 (length one) a, le-ltb 4096 (length two) b, ← e, ne_eqb n 0 z)

-- ---- the first 8,194 bytes decide

drop-take : (k m : ℕ) (xs : List ℕ) → drop k (take (k + m) xs) ≡ take m (drop k xs)
drop-take zero m xs = ap (λ (i : ℕ). take i xs) (zero-add m)
drop-take (suc k) m [] = ap (λ (i : ℕ). drop (suc k) (take i [])) (suc-add k m) ∙ sym (take_all m [] (omega arith))
drop-take (suc k) m (x ∷ xs) = ap (λ (i : ℕ). drop (suc k) (take i (x ∷ xs))) (suc-add k m) ∙ drop-take k m xs

-- a front part has the same place, or it has none
position_cut : (b m : ℕ) (xs : List ℕ) → position b xs ≤ m → position b (take m xs) ≡ position b xs
unfolding position
position_cut b zero [] h = refl
position_cut b (suc m) [] h = refl
position_cut b zero (x ∷ xs) h = omega arith
position_cut b (suc m) (x ∷ xs) h =
    bool_cases (eqb x b) (λ t. rw t) (λ t. rw t (ap suc (position_cut b m xs (let k = rw t at h in omega arith))))

position_short : (b m : ℕ) (xs : List ℕ) → m < position b xs → position b (take m xs) ≡ m
unfolding position
position_short b m [] h = absurd (omega arith)
position_short b zero (x ∷ xs) h = refl
position_short b (suc m) (x ∷ xs) h =
    bool_cases (eqb x b) (λ t. absurd (let k : suc m < 0 = rw t at h in omega arith))
    (λ t. rw t (ap suc (position_short b m xs (let k = rw t at h in omega arith))))

line_length : (xs : List ℕ) → length (first_line xs) ≡ position 10 xs
unfolding first_line
line_length xs = length-take-le (position 10 xs) xs (position_most 10 xs)

-- a line of an input that is cut: the same, or too long like the whole one
cut_line {ℓ} : {A : Type ℓ} (m : ℕ) (xs : List ℕ) → 4096 < m
    → (length (first_line xs) ≤ 4096 → position 10 (take m xs) ≡ position 10 xs → first_line (take m xs) ≡ first_line xs → A)
    → (4096 < length (first_line xs) → 4096 < length (first_line (take m xs)) → A) → A
unfolding first_line
cut_line m xs h f g =
    let l = line_length xs in
    let k = line_length (take m xs) in
    less_cases 4096 (position 10 xs)
    (λ long. less_cases m (position 10 xs)
    (λ s. let e = position_short 10 m xs s in g (omega arith) (omega arith))
    (λ s. let e = position_cut 10 m xs s in g (omega arith) (omega arith)))
    (λ short. let e = position_cut 10 m xs (omega arith) in
    f (omega arith) e (ap (λ (i : ℕ). take i (take m xs)) e ∙ take-take (position 10 xs) m xs (omega arith)))

-- what lies behind the first 8,194 bytes changes nothing
pub first_bytes : (input : List ℕ) → response (take 8194 input) ≡ response input
unfolding response after_line
first_bytes input =
    cut_line 8194 input (omega arith)
    (λ short e same.
    let l = line_length input in
    let k = position 10 input + 1 in
    let m : k + (8194 - k) ≡ 8194 = omega arith in
    let d : drop (position 10 (take 8194 input) + 1) (take 8194 input) ≡ take (8194 - k) (drop k input)
    = ap (λ (i : ℕ). drop (i + 1) (take 8194 input)) e ∙ ap (λ (i : ℕ). drop k (take i input)) (sym m) ∙ drop-take k (8194 - k) input in
    cut_line (8194 - k) (drop k input) (omega arith)
    (λ s2 e2 same2. ap (λ (one : List ℕ). answer_to one (line_two (take 8194 input))) same ∙ ap (λ (two : List ℕ). answer_to (first_line input) (first_line two)) d
    ∙ ap (answer_to (first_line input)) same2)
    (λ a b. ap (λ (one : List ℕ). answer_to one (line_two (take 8194 input))) same ∙ ap (λ (two : List ℕ). answer_to (first_line input) (first_line two)) d
    ∙ long_two (first_line input) _ short b ∙ sym (long_two (first_line input) _ short a)))
    (λ a b. long_one _ _ b ∙ sym (long_one _ _ a))
