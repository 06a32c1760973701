-- Laws of tokens: what the parts of one are where nothing is refused, that each code that is read is one that is taken, where a fault can
-- stand, and the code's ways out.
use Prim.Native.Nat.{ℕ, zero, suc, ◌+◌, ◌-◌, ◌/◌, ◌%◌, ◌*◌, ◌^◌, ◌≤◌, ◌<◌}
use mathlib.Core.Path.{◌≡◌, refl, sym, ap, subst, ◌∙◌}
use mathlib.Core.Bool.{true, false, true≢false}
use mathlib.Core.List.{List, [], ◌∷◌}
use native.Mathlib.Omega.{arith}
use lib.ListN.{length, get_or, get_or-eq_default}
use lib.Dec.{ltb, leb, eqb}
use Rattle.std.specs.Prelude.{Result, Ok, Err}
use Rattle.std.specs.Bool.{then_some}
use borrow.Author.Tests.{eq-eqb, ne_eqb, le-ltb, lt-leb, le-leb, eqb-true, eqb-false, ltb-true, ltb-false, leb-false, not-false}
use Rattle.ground.specs.Choice.{pick, position, between}
use Rattle.ground.proofs.ChoiceLaws.{any_below, tested, bool_cases, less_cases, between_bounds, bounds_between, under_between, over-between}
use Rattle.generic_cube.specs.Code.{move, code_of, is_wide, outside}
use Rattle.generic_cube.proofs.CodeLaws.{Good, good_move}
use Rattle.tokens.specs.declared.Mark.{Mark}
use Rattle.tokens.specs.declared.Fault.{Fault}
use Rattle.tokens.specs.Token.{digit_of, is_digit, digits_of, token_width, letter_of, letter_at, is_wide_token, plain_kind, mark_of, suffix_at, suffix_of, token_end, token_move, bad_digits, no_letter, no_w, bytes_left, bad_token_width, fault, FaultRow, token_faults, unless_fault, read_behind, read_token}
use Rattle.tokens.specs.Inner.{LetterPlace, Lettered}

-- ---- a suffix has a turn, a letter a kind, and a digit a value

pub mark_turn : (b : ℕ) → (1 ≤ (mark_of b).turn) × ((mark_of b).turn ≤ 3)
unfolding mark_of
mark_turn b =
    bool_cases (eqb b 50) (λ t. rw t (omega arith, omega arith))
    (λ t. bool_cases (eqb b 39) (λ s. rw (t, s) (omega arith, omega arith)) (λ s. rw (t, s) (omega arith, omega arith)))

-- the way to a face's place by the code: the places are packed by their letters, from B on, three bits each, 7 for none
unfoldable pub face_places : ℕ
face_places = 142989281726541692

abbrev pub packed_at : ℕ → ℕ
packed_at b = face_places / 2 ^ (3 * (b - 66)) % 8

packed_lem : (b : ℕ) → between 66 85 b ≡ true → pick (ltb (packed_at b) 7) (packed_at b) 9 ≡ letter_of b
unfolding face_places letter_of position any_below between
packed_lem b h =
    let below = between_bounds 66 85 b h in
    let t = eqb-true _ _ (tested (λ x. eqb (pick (between 66 85 x) (pick (ltb (packed_at x) 7) (packed_at x) 9) (letter_of x)) (letter_of x)) 86 refl b (omega (arith, below.1))) in
    rw h at t

pub letter_packed : (b : ℕ) → 66 ≤ b → b ≤ 85 → LetterPlace b (then_some (ltb (packed_at b) 7) (packed_at b))
letter_packed b l h =
    let e = packed_lem b (bounds_between 66 85 b l h) in
    bool_cases (ltb (packed_at b) 7)
    (λ t. let k = ltb-true (packed_at b) 7 t in rw t (rw t at e, omega arith))
    (λ t. rw t (sym (rw t at e)))

-- the same for every letter, in one choice
unfoldable pub letter_by : ℕ → ℕ
letter_by b =
    pick (ltb b 66) 9
    (pick (leb b 85) (pick (eqb (packed_at b) 7) 9 (packed_at b))
    (pick (ltb b 120) 9 (pick (leb b 122) (b - 114) 9)))

pub letter_by_lem : (b : ℕ) → b < 256 → letter_by b ≡ letter_of b
unfolding face_places letter_by letter_of position any_below
letter_by_lem b h = eqb-true _ _ (tested (λ x. eqb (letter_by x) (letter_of x)) 256 refl b h)

-- a digit is 48 and its value
pub digit_back : (b : ℕ) → (digit_of b ≡ 10 → ⊥) → (b ≡ 48 + digit_of b) × (digit_of b < 10)
unfolding digit_of
digit_back b n =
    bool_cases (between 48 57 b)
    (λ t. let k = between_bounds 48 57 b t in rw t (omega arith, omega arith))
    (λ t. absurd ((rw t at n) refl))

pub record PlainKind (k : ℕ) : Type 0 where
  pub most : k < 15
  pub plain : is_wide k ≡ false

pub plain_kind_lem : (p : ℕ) → p < 9 → PlainKind (plain_kind p)
unfolding plain_kind is_wide
plain_kind_lem p h =
    bool_cases (ltb p 6)
    (λ t. let l = ltb-true p 6 t in rw t (record { most = omega arith; plain = under_between 6 11 p l }))
    (λ t. let l = ltb-false p 6 t in
    rw t (record { most = omega arith; plain = over-between 6 11 (p + 6) (omega arith) (omega arith) }))

pub wide_of : (p : ℕ) → p < 6 → is_wide (p + 6) ≡ true
unfolding is_wide
wide_of p h = bounds_between 6 11 (p + 6) (omega arith) (omega arith)

-- ---- the parts of a token

-- what stands in a token of the grammar, k digits at its front
pub record Formed (t : List ℕ) (k : ℕ) : Type 0 where
  pub first : get_or t 0 0 ≡ 48 → ⊥
  pub few : k ≤ 3
  pub letter : letter_at t k < 9
  pub plain : is_wide_token t k ≡ false → k ≡ 0
  pub end : length t ≡ token_end t k

-- and in one without a refusal
pub record Parts (n : ℕ) (t : List ℕ) (k : ℕ) : Type 0 where
  pub form : Formed t k
  pub width : is_wide_token t k ≡ true → outside 2 (n - 1) (token_width t k) ≡ false

pub wide_letter : (t : List ℕ) (k : ℕ) → is_wide_token t k ≡ true → (letter_at t k < 6) × (get_or t (k + 1) 0 ≡ 119)
unfolding is_wide_token
wide_letter t k w =
    bool_cases (ltb (letter_at t k) 6)
    (λ u. (ltb-true _ _ u, eqb-true _ _ (rw u at w)))
    (λ u. absurd (true≢false (sym (rw u at w))))

module _ (t : List ℕ) (k : ℕ) where
  pub digits_parts : bad_digits t k ≡ false → (get_or t 0 0 ≡ 48 → ⊥) × (k ≤ 3)
  unfolding bad_digits
  digits_parts e =
      bool_cases (eqb (get_or t 0 0) 48)
      (λ u. absurd (true≢false (rw u at e)))
      (λ u. (eqb-false _ _ u, ltb-false 3 k (rw u at e)))

  pub parts_digits : (get_or t 0 0 ≡ 48 → ⊥) → k ≤ 3 → bad_digits t k ≡ false
  unfolding bad_digits
  parts_digits z h = rw (ne_eqb _ _ z) (le-ltb 3 k h)

  pub letter_parts : no_letter t k ≡ false → letter_at t k < 9
  unfolding no_letter
  letter_parts e =
      bool_cases (eqb k 0)
      (λ u. leb-false 9 (letter_at t k) (rw u at e))
      (λ u. let h = leb-false 6 (letter_at t k) (rw u at e) in omega arith)

  pub parts_letter : letter_at t k < 9 → (is_wide_token t k ≡ false → k ≡ 0) → no_letter t k ≡ false
  unfolding no_letter
  parts_letter h p =
      bool_cases (eqb k 0)
      (λ u. rw u (lt-leb 9 (letter_at t k) h))
      (λ u. rw u (lt-leb 6 (letter_at t k) (bool_cases (is_wide_token t k) (λ w. (wide_letter t k w).0) (λ w. absurd (eqb-false k 0 u (p w))))))

  pub w_parts : no_w t k ≡ false → is_wide_token t k ≡ false → k ≡ 0
  unfolding no_w
  w_parts e w = bool_cases (eqb k 0) (λ u. eqb-true k 0 u) (λ u. absurd (true≢false (rw (u, w) at e)))

  pub parts_w : (is_wide_token t k ≡ false → k ≡ 0) → no_w t k ≡ false
  unfolding no_w
  parts_w p =
      bool_cases (eqb k 0) (λ u. rw u)
      (λ u. bool_cases (is_wide_token t k) (λ w. rw (u, w)) (λ w. absurd (eqb-false k 0 u (p w))))

  width_parts : (n : ℕ) → bad_token_width n t k ≡ false → is_wide_token t k ≡ true → outside 2 (n - 1) (token_width t k) ≡ false
  unfolding bad_token_width
  width_parts n e w = rw w at e

  pub parts_width : (n : ℕ) → (is_wide_token t k ≡ true → outside 2 (n - 1) (token_width t k) ≡ false) → bad_token_width n t k ≡ false
  unfolding bad_token_width
  parts_width n p = bool_cases (is_wide_token t k) (λ w. rw w (p w)) (λ w. rw w)

  left_end : bytes_left t k ≡ false → length t ≡ token_end t k
  unfolding bytes_left
  left_end e = eqb-true _ _ (not-false _ e)

  pub end_left : length t ≡ token_end t k → bytes_left t k ≡ false
  unfolding bytes_left
  end_left e = rw (eq-eqb _ _ e)

  pub formed_by : bad_digits t k ≡ false → no_letter t k ≡ false → no_w t k ≡ false → bytes_left t k ≡ false → Formed t k
  formed_by a b c d =
      let z = digits_parts a in
      record { first = z.0; few = z.1; letter = letter_parts b; plain = w_parts c; end = left_end d }

-- no fault is there
abbrev pub Faultless : List FaultRow → Type 0
Faultless [] = Unit {0}
Faultless (f ∷ fs) = (f.there ≡ false) × Faultless fs

faultless_read : (fs : List FaultRow) (r : Result ℕ Fault) → Faultless fs → unless_fault fs r ≡ r
unfolding unless_fault
faultless_read [] r p = refl
faultless_read (f ∷ fs) r p = rw p.0 (faultless_read fs r p.1)

read_faultless : (fs : List FaultRow) (x c : ℕ) → unless_fault fs (Ok x) ≡ Ok c → Faultless fs × (c ≡ x)
unfolding unless_fault
read_faultless [] x c e = (tt, cc)
read_faultless (f ∷ fs) x c e =
    bool_cases f.there
    (λ t. let q : Err (fault f.number f.place) ≡ Ok c = rw t at e in let z : ◌≡◌ {A = ℕ} 0 1 = cc in absurd (omega arith))
    (λ t. let q = read_faultless fs x c (rw t at e) in ((t, q.0), q.1))

module _ (n : ℕ) (t : List ℕ) (k : ℕ) where
  -- A CODE IS READ EXACTLY IF A TOKEN HAS THESE PARTS
  pub token_code : {c : ℕ} → read_behind n t k ≡ Ok c → (Parts n t k) × (c ≡ code_of (token_move t k))
  unfolding read_behind
  token_code {c} e =
      let q = read_faultless (token_faults n t k) (code_of (token_move t k)) c e in
      let p = q.0 in
      (record { form = formed_by t k p.0 p.1.0 p.1.1.0 p.1.1.1.0; width = width_parts t k n p.1.1.1.1.0 }, q.1)

  pub parts_code : Parts n t k → Ok (code_of (token_move t k)) ≡ read_behind n t k
  unfolding read_behind
  parts_code p =
      let f = p.form in
      sym (faultless_read (token_faults n t k) (Ok (code_of (token_move t k))) (
        parts_digits t k f.first f.few,
        (
          parts_letter t k f.letter f.plain,
          (parts_w t k f.plain, (end_left t k f.end, (parts_width t k n p.width, tt))),
        ),
      ))

-- ---- the code that they make

module _ (t : List ℕ) (k : ℕ) where
  pub wide_move : is_wide_token t k ≡ true → token_move t k ≡ move (letter_at t k + 6) (token_width t k) (suffix_of t k).turn
  unfolding token_move
  wide_move w = rw w

  pub plain_move : is_wide_token t k ≡ false → token_move t k ≡ move (plain_kind (letter_at t k)) 0 (suffix_of t k).turn
  unfolding token_move
  plain_move w = rw w

  move_good : {n : ℕ} → Parts n t k → Good 2 (n - 1) (code_of (token_move t k))
  move_good {n} p =
      let u = mark_turn (get_or t (suffix_at t k) 0) in
      bool_cases (is_wide_token t k)
      (λ w. let l = wide_letter t k w in let i = wide_of (letter_at t k) l.0 in
      rw (wide_move w) (good_move 2 (n - 1) _ u.0 u.1 (omega arith) (λ z. absurd (true≢false (sym i ∙ z))) (λ z. p.width w)))
      (λ w. let f = plain_kind_lem (letter_at t k) p.form.letter in
      rw (plain_move w) (good_move 2 (n - 1) _ u.0 u.1 f.most (λ z. refl) (λ z. absurd (true≢false (sym z ∙ f.plain)))))

-- a token's code is one that the writer takes
pub token_good : (n : ℕ) (t : List ℕ) (c : ℕ) → read_token n t ≡ Ok c → Good 2 (n - 1) c
unfolding read_token
token_good n t c e =
    let q = token_code n t (digits_of t) e in
    subst (Good 2 (n - 1)) (sym q.1) (move_good t (digits_of t) q.0)

-- ---- where a fault can stand

-- a byte that is not 0 stands in the list
pub stands : (t : List ℕ) (i : ℕ) → (get_or t i 0 ≡ 0 → ⊥) → i < length t
stands t i h = less_cases i (length t) (λ lt. lt) (λ ge. absurd (h (get_or-eq_default t 0 {n = i} ge)))

pub letter_stands : (t : List ℕ) (i : ℕ) → letter_at t i < 9 → i < length t
unfolding letter_of position
letter_stands t i h = stands t i (λ e. let q : 9 < 9 = rw e at h in omega arith)

digit_stands : (t : List ℕ) (i : ℕ) → is_digit (get_or t i 0) ≡ true → i < length t
unfolding is_digit digit_of between
digit_stands t i h = stands t i (λ e. true≢false (sym h ∙ ap is_digit e))

-- the digits stand there, and none after them
pub record DigitsEnd (t : List ℕ) (k : ℕ) : Type 0 where
  pub long : k ≤ length t
  pub ended : is_digit (get_or t k 0) ≡ false

pub digits_end : (t : List ℕ) → digits_of t ≤ 3 → DigitsEnd t (digits_of t)
unfolding digits_of
digits_end t h =
    bool_cases (is_digit (get_or t 0 0)) (λ a.
    bool_cases (is_digit (get_or t 1 0)) (λ b.
    bool_cases (is_digit (get_or t 2 0)) (λ c.
    bool_cases (is_digit (get_or t 3 0))
    (λ d. let q : 4 ≤ 3 = rw (a, b, c, d) at h in absurd (omega arith))
    (λ d. rw (a, b, c, d) (record { long = digit_stands t 2 c; ended = d })))
    (λ c. rw (a, b, c) (record { long = digit_stands t 1 b; ended = c })))
    (λ b. rw (a, b) (record { long = digit_stands t 0 a; ended = b })))
    (λ a. rw a (record { long = omega arith; ended = a }))

-- so many digits stand there, and no fourth behind fewer than four
pub digits_are : (t : List ℕ) (i : ℕ) → i ≤ 4 → ((k : ℕ) → k < i → is_digit (get_or t k 0) ≡ true) → (i < 4 → is_digit (get_or t i 0) ≡ false)
    → i ≡ digits_of t
unfolding digits_of
digits_are t zero h b e = rw (e (omega arith))
digits_are t (suc zero) h b e = rw (b 0 (omega arith), e (omega arith))
digits_are t (suc (suc zero)) h b e = rw (b 0 (omega arith), b 1 (omega arith), e (omega arith))
digits_are t (suc (suc (suc zero))) h b e = rw (b 0 (omega arith), b 1 (omega arith), b 2 (omega arith), e (omega arith))
digits_are t (suc (suc (suc (suc zero)))) h b e =
    rw (b 0 (omega arith), b 1 (omega arith), b 2 (omega arith), b 3 (omega arith))
digits_are t (suc (suc (suc (suc (suc i))))) h b e = absurd (omega arith)

-- a suffix ends within the token
mark_within : (t : List ℕ) (s : ℕ) → s ≤ length t → s + (mark_of (get_or t s 0)).size ≤ length t
unfolding mark_of
mark_within t s h =
    bool_cases (eqb (get_or t s 0) 50)
    (λ a. let i = stands t s (λ e. omega (arith, eqb-true (get_or t s 0) 50 a)) in rw a (omega arith))
    (λ a. bool_cases (eqb (get_or t s 0) 39)
    (λ b. let i = stands t s (λ e. omega (arith, eqb-true (get_or t s 0) 39 b)) in rw (a, b) (omega arith))
    (λ b. rw (a, b) (omega arith)))

pub end_within : (t : List ℕ) (k : ℕ) → letter_at t k < 9 → token_end t k ≤ length t
unfolding suffix_at
end_within t k l =
    bool_cases (is_wide_token t k)
    (λ w. let v = wide_letter t k w in let i = stands t (k + 1) (λ e. omega (arith, v.1)) in rw w (mark_within t (k + 2) (omega arith)))
    (λ w. let i = letter_stands t k l in rw w (mark_within t (k + 1) (omega arith)))

-- a refusal's place is one in the token, or the token's end
pub place_within : (n : ℕ) (t : List ℕ) {f : Fault} → Err f ≡ read_token n t → f.place ≤ length t
unfolding read_token read_behind unless_fault
place_within n t {f} e =
    let k : ℕ = digits_of t in
    bool_cases (bad_digits t k) (λ a. let q : Err f ≡ Err (fault 13 0) = rw a at e in let z : f.place ≡ 0 = cc in omega arith) (λ a.
    bool_cases (no_letter t k) (λ b.
    let q : Err f ≡ Err (fault 12 k) = rw (a, b) at e in
    let z : f.place ≡ k = cc in
    omega (arith, (digits_end t (digits_parts t k a).1).long)) (λ b.
    let l = letter_parts t k b in
    bool_cases (no_w t k) (λ c.
    let q : Err f ≡ Err (fault 14 (k + 1)) = rw (a, b, c) at e in
    let z : f.place ≡ k + 1 = cc in
    omega (arith, letter_stands t k l)) (λ c.
    bool_cases (bytes_left t k) (λ d.
    let q : Err f ≡ Err (fault 14 (token_end t k)) = rw (a, b, c, d) at e in
    let z : f.place ≡ token_end t k = cc in
    omega (arith, end_within t k l)) (λ d.
    bool_cases (bad_token_width n t k)
    (λ g. let q : Err f ≡ Err (fault 5 0) = rw (a, b, c, d, g) at e in let z : f.place ≡ 0 = cc in omega arith)
    (λ g. let q : Err f ≡ Ok (code_of (token_move t k)) = rw (a, b, c, d, g) at e in let z : ◌≡◌ {A = ℕ} 0 1 = cc in absurd (omega arith))))))

-- ---- the code's ways out

module _ (n : ℕ) (t : List ℕ) (k : ℕ) where
  pub out_digits : bad_digits t k ≡ true → Err (fault 13 0) ≡ read_behind n t k
  unfolding read_behind unless_fault
  out_digits e = rw e

  pub out_letter : bad_digits t k ≡ false → no_letter t k ≡ true → Err (fault 12 k) ≡ read_behind n t k
  unfolding read_behind unless_fault
  out_letter e d = rw (e, d)

  module _ {place : ℕ} (l : Lettered t k place) where
    pub out_w : is_wide_token t k ≡ false → (k ≡ 0 → ⊥) → Err (fault 14 (k + 1)) ≡ read_behind n t k
    unfolding read_behind unless_fault no_w
    out_w w z = rw (l.digits, l.some, ne_eqb k 0 z, w)

    -- behind the letter, or the `w`, at s
    module _ (p : is_wide_token t k ≡ false → k ≡ 0) {s : ℕ} (q : suffix_at t k ≡ s) {mark : Mark} (e : mark ≡ mark_of (get_or t s 0)) where
      ended : token_end t k ≡ s + mark.size
      ended = rw (q, e)

      pub out_left : (length t ≡ s + mark.size → ⊥) → Err (fault 14 (s + mark.size)) ≡ read_behind n t k
      unfolding read_behind unless_fault bytes_left
      out_left z =
          ap (λ (p : ℕ). Err (fault 14 p)) (sym ended) ∙ rw (l.digits, l.some, parts_w t k p, ne_eqb (length t) (token_end t k) (λ y. z (y ∙ ended)))

      module _ (h : length t ≡ s + mark.size) where
        formed : Formed t k
        formed =
            let d = digits_parts t k l.digits in
            record { first = d.0; few = d.1; letter = letter_parts t k l.some; plain = p; end = h ∙ sym ended }

        pub out_plain : is_wide_token t k ≡ false → {kind c : ℕ} → kind ≡ plain_kind place → c ≡ code_of (move kind 0 mark.turn) → Ok c ≡ read_behind n t k
        out_plain w {kind} {c} a b =
            let m : code_of (move kind 0 mark.turn) ≡ code_of (token_move t k) = rw (plain_move t k w, q, a, e, l.letter) in
            ap Ok (b ∙ m) ∙ parts_code n t k (record { form = formed; width = λ y. absurd (true≢false (sym y ∙ w)) })

        module _ (w : is_wide_token t k ≡ true) {v : ℕ} (a : v ≡ token_width t k) where
          pub out_width : outside 2 (n - 1) v ≡ true → Err (fault 5 0) ≡ read_behind n t k
          unfolding read_behind unless_fault bad_token_width
          out_width o = rw (l.digits, l.some, parts_w t k p, end_left t k (h ∙ sym ended), w, ← a, o)

          pub out_wide : outside 2 (n - 1) v ≡ false → {c : ℕ} → c ≡ code_of (move (place + 6) v mark.turn) → Ok c ≡ read_behind n t k
          out_wide o {c} b =
              let m : code_of (move (place + 6) v mark.turn) ≡ code_of (token_move t k) = rw (wide_move t k w, q, a, e, l.letter) in
              ap Ok (b ∙ m) ∙ parts_code n t k (record { form = formed; width = λ y. rw a at o })

-- what the code's tests say
module _ (t : List ℕ) where
  -- no digits: the first byte is no 0
  some_digits : is_digit (get_or t 0 0) ≡ true → digits_of t ≡ 0 → ⊥
  unfolding digits_of
  some_digits a e =
      bool_cases (is_digit (get_or t 1 0)) (λ b.
      bool_cases (is_digit (get_or t 2 0)) (λ c.
      bool_cases (is_digit (get_or t 3 0))
      (λ d. let z : ◌≡◌ {A = ℕ} 4 0 = rw (a, b, c, d) at e in omega arith)
      (λ d. let z : ◌≡◌ {A = ℕ} 3 0 = rw (a, b, c, d) at e in omega arith))
      (λ c. let z : ◌≡◌ {A = ℕ} 2 0 = rw (a, b, c) at e in omega arith))
      (λ b. let z : ◌≡◌ {A = ℕ} 1 0 = rw (a, b) at e in omega arith)

  zero_digit : get_or t 0 0 ≡ 48 → is_digit (get_or t 0 0) ≡ true
  unfolding is_digit digit_of between
  zero_digit z = rw z

  pub bare_digits : digits_of t ≡ 0 → bad_digits t 0 ≡ false
  bare_digits e = parts_digits t 0 (λ z. some_digits (zero_digit z) e) (omega arith)

  pub bare_letter : {place : ℕ} → place ≡ letter_at t 0 → place < 9 → no_letter t 0 ≡ false
  unfolding no_letter
  bare_letter e h = lt-leb 9 (letter_at t 0) (omega (arith, e))

  pub bare_none : letter_at t 0 ≡ 9 → no_letter t 0 ≡ true
  unfolding no_letter
  bare_none e = rw e

  module _ {k place : ℕ} (some : 0 < k) (e : place ≡ letter_at t k) where
    pub face_letter : place < 6 → no_letter t k ≡ false
    unfolding no_letter
    face_letter h = rw (ne_eqb k 0 (omega arith)) (lt-leb 6 (letter_at t k) (omega (arith, e)))

    pub face_none : 6 ≤ place → no_letter t k ≡ true
    unfolding no_letter
    face_none h = rw (ne_eqb k 0 (omega arith)) (le-leb 6 (letter_at t k) (omega (arith, e)))

-- behind digits a byte that is no face's letter is 12 where it stands
pub out_no_letter : (n : ℕ) (t : List ℕ) (k : ℕ) → bad_digits t k ≡ false → 0 < k → 6 ≤ letter_at t k → Err (fault 12 k) ≡ read_behind n t k
out_no_letter n t k e some h = out_letter n t k e (face_none t some refl h)

-- with a `w` the suffix stands at k + 2, without at k + 1
module _ (t : List ℕ) (k : ℕ) where
  pub suffix_wide : is_wide_token t k ≡ true → suffix_at t k ≡ k + 2
  unfolding suffix_at
  suffix_wide w = rw w

  pub suffix_plain : is_wide_token t k ≡ false → suffix_at t k ≡ k + 1
  unfolding suffix_at
  suffix_plain w = rw w

  pub lettered_few : {place : ℕ} → Lettered t k place → (k ≤ 3) × (place < 9)
  lettered_few l = ((digits_parts t k l.digits).1, rw l.letter (letter_parts t k l.some))
