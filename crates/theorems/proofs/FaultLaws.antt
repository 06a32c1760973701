-- Where a text stops being a token: each fault is answered by its number at its place, and what is no token has one.
use Prim.Native.Nat.{ℕ, suc, ◌+◌, ◌-◌, ◌≤◌, ◌<◌}
use mathlib.Core.Path.{◌≡◌, refl, sym, ap, subst, ◌∙◌}
use mathlib.Core.Bool.{Bool, true, false, true≢false}
use mathlib.Core.List.{List, [], ◌∷◌, ◌++◌}
use native.Mathlib.Omega.{arith}
use native.Mathlib.Numerals.{add-one}
use lib.Dec.{eqb, ltb}
use lib.ListN.{length, get_or, take, drop, length-append, length-drop, take-append-drop}
use lib.Seq.{drop-cons, get_or-drop, get_or-append_seam, get_or-append-add, length-take-le}
use borrow.Author.Tests.{ne_eqb, lt-ltb, le-leb, leb-true, eqb-true, eqb-false, ltb-true, leb-false, not-true}
use Rattle.std.specs.Prelude.{Result, Ok, Err}
use Rattle.ground.specs.declared.refusals.Refusal.{Refusal}
use Rattle.ground.specs.declared.refusals.Refusal.TheVariants.{Level}
use Rattle.ground.specs.Refusals.{refusal_no, refusal}
use Rattle.ground.proofs.RefusalLaws.{refusal_back, number_only}
use Rattle.tokens.specs.declared.Fault.{Fault}
use Rattle.ground.specs.Choice.{pick, between}
use Rattle.ground.proofs.ChoiceLaws.{bool_cases, less_cases}
use Rattle.generic_cube.specs.declared.Move.{Move}
use Rattle.generic_cube.specs.Code.{code_of, bad_width_in}
use Rattle.tokens.specs.Token.{fault, digit_of, is_digit, digits_of, token_width, kind_letters, letter_of, letter_at, is_wide_token, mark_of, suffix_at, token_end, token_move, bad_digits, no_letter, no_w, bytes_left, read_behind, read_token}
use Rattle.tokens.specs.Inner.{Lettered}
use Rattle.tokens.specs.Words.{Run}
use Rattle.tokens.proofs.TokenLaws.{digit_back, wide_letter, digits_parts, parts_digits, letter_parts, parts_letter, w_parts, end_left, Formed, formed_by, stands, letter_stands, DigitsEnd, digits_end, end_within, suffix_wide, suffix_plain, face_letter, out_digits, out_letter, out_w, out_left}
use Rattle.scramble_parser.specs.Parse.{Reading, codes, bad, ahead, reading}
use Rattle.theorems.specs.Notation.{Suffix, Width, no_digits, Shaped, NoDigit, NoneOf, ByteLeft, no_mark, one_mark, Faulty, zero_first, four_digits, no_letter_here, no_w_here, plain_left, wide_left, HasFault, FaultFound, Refusing, for_fault, for_width, Refuses, FirstBad, FirstRefused}
use Rattle.theorems.proofs.GrammarLaws.{digit_is, letter_place_lem, letter_is, marked, half_is, counter_is, width_read, letter_back, is_a_digit, width_back, split_plain, split_wide, formed_shaped, shaped_reads, taken_width, width_refused}

-- ---- bytes left after a suffix

-- they start where the reader's suffix ends
left_size : {i : ℕ} {rest : List ℕ} → ByteLeft i rest → ((mark_of (get_or rest 0 0)).size ≡ i) × (i < length rest)
unfolding mark_of
left_size (no_mark b rest none) = (rw (ne_eqb b 50 (λ e. none 2 (half_is b e)), ne_eqb b 39 (λ e. none 3 (counter_is b e))), omega arith)
left_size (one_mark m b rest u s) = ((marked s).size, omega arith)

mark_left : (b : ℕ) (rest : List ℕ) {u : ℕ} → Suffix (b ∷ []) u → 1 < length (b ∷ rest) → ByteLeft 1 (b ∷ rest)
mark_left b [] s h = absurd (omega arith)
mark_left b (c ∷ rest) {u} s h = one_mark b c rest u s

left_back : (rest : List ℕ) → (mark_of (get_or rest 0 0)).size < length rest → ByteLeft (mark_of (get_or rest 0 0)).size rest
unfolding mark_of
left_back [] h = absurd (omega arith)
left_back (b ∷ rest) h =
    bool_cases (eqb b 50)
    (λ t. rw t (mark_left b rest (half_is b (eqb-true b 50 t)) (rw t at h)))
    (λ t. bool_cases (eqb b 39)
    (λ s. rw (t, s) (mark_left b rest (counter_is b (eqb-true b 39 s)) (rw (t, s) at h)))
    (λ s. rw (t, s) (no_mark b rest (λ u x. let z : ◌≡◌ {A = ℕ} 0 1 = rw (t, s) at (marked x).size in omega arith))))

-- ---- a fault's number

not_digit : (rest : List ℕ) → NoDigit rest → is_digit (get_or rest 0 0) ≡ false
not_digit rest h =
    bool_cases (is_digit (get_or rest 0 0))
    (λ a. let d = digit_back (get_or rest 0 0) (is_a_digit rest 0 a) in absurd (h (digit_of (get_or rest 0 0)) d.1 d.0))
    (λ a. a)

zero_refused : (n : ℕ) (rest : List ℕ) → read_token n (48 ∷ rest) ≡ Err (fault 13 0)
unfolding read_token bad_digits
zero_refused n rest = sym (out_digits n (48 ∷ rest) (digits_of (48 ∷ rest)) refl)

four_refused : (n a b c d : ℕ) (rest : List ℕ) → a < 10 → b < 10 → c < 10 → d < 10
    → read_token n ((48 + a) ∷ (48 + b) ∷ (48 + c) ∷ (48 + d) ∷ rest) ≡ Err (fault 13 0)
unfolding read_token bad_digits digits_of
four_refused n a b c d rest ha hb hc hd =
    let t : List ℕ = (48 + a) ∷ (48 + b) ∷ (48 + c) ∷ (48 + d) ∷ rest in
    let k : digits_of t ≡ 4 = simp (digit_is a ha, digit_is b hb, digit_is c hc, digit_is d hd) in
    ap (read_behind n t) k ∙ sym (out_digits n t 4 (bool_cases (eqb (48 + a) 48) (λ u. rw u) (λ u. rw u)))

module _ (n : ℕ) {ds : List ℕ} {w : ℕ} (d : Width ds w) where
  letter_refused : (rest : List ℕ) → NoDigit rest → NoneOf (pick (eqb (length ds) 0) 9 6) rest → read_token n (ds ++ rest) ≡ Err (fault 12 (length ds))
  unfolding read_token no_letter
  letter_refused rest h none =
      let t : List ℕ = ds ++ rest in
      let k : ℕ = length ds in
      let r = width_read rest (not_digit rest h) d in
      let g : get_or t k 0 ≡ get_or rest 0 0 = ap (λ (j : ℕ). get_or t j 0) {x = k} {y = k + 0} (omega arith) ∙ get_or-append-add ds rest 0 0 in
      let most : pick (eqb k 0) 9 6 ≤ 9 = bool_cases (eqb k 0) (λ u. rw u (omega arith)) (λ u. rw u (omega arith)) in
      let no : pick (eqb k 0) 9 6 ≤ letter_at t k
      = less_cases (letter_at t k) (pick (eqb k 0) 9 6)
      (λ lt. absurd (none (letter_at t k) lt (sym g ∙ sym (letter_back (get_or t k 0) (omega arith)))))
      (λ ge. ge) in
      ap (read_behind n t) r.count ∙ sym (out_letter n t k (parts_digits t k r.first r.few) (le-leb _ (letter_at t k) no))

  w_refused : (p : ℕ) (rest : List ℕ) → p < 6 → 0 < length ds → (get_or rest 0 0 ≡ 119 → ⊥) → read_token n (ds ++ (get_or kind_letters p 0 ∷ rest)) ≡ Err (fault 14 (length ds + 1))
  unfolding read_token is_wide_token
  w_refused p rest h some z =
      let t : List ℕ = ds ++ (get_or kind_letters p 0 ∷ rest) in
      let k : ℕ = length ds in
      let r = width_read (get_or kind_letters p 0 ∷ rest) (letter_is p) d in
      let g0 : get_or t k 0 ≡ get_or kind_letters p 0 = get_or-append_seam ds (get_or kind_letters p 0) rest 0 in
      let g1 : get_or t (k + 1) 0 ≡ get_or rest 0 0 = get_or-append-add ds (get_or kind_letters p 0 ∷ rest) 1 0 in
      let l : letter_at t k ≡ p = ap letter_of g0 ∙ letter_place_lem p (omega arith) in
      let v : is_wide_token t k ≡ false = rw (l, lt-ltb p 6 h, g1) (ne_eqb (get_or rest 0 0) 119 z) in
      let f : Lettered t k p = record { digits = parts_digits t k r.first r.few; letter = sym l; some = face_letter t some (sym l) h } in
      ap (read_behind n t) r.count ∙ sym (out_w n t k f v (λ q. omega arith))

  wide_refused : (p : ℕ) {i : ℕ} (rest : List ℕ) → p < 6 → ByteLeft i rest
      → read_token n (ds ++ (get_or kind_letters p 0 ∷ 119 ∷ rest)) ≡ Err (fault 14 (length ds + 2 + i))
  unfolding read_token is_wide_token
  wide_refused p {i} rest h x =
      let more : List ℕ = get_or kind_letters p 0 ∷ 119 ∷ rest in
      let t : List ℕ = ds ++ more in
      let k : ℕ = length ds in
      let r = width_read more (letter_is p) d in
      let g0 : get_or t k 0 ≡ get_or kind_letters p 0 = get_or-append_seam ds (get_or kind_letters p 0) (119 ∷ rest) 0 in
      let g1 : get_or t (k + 1) 0 ≡ 119 = get_or-append-add ds more 1 0 in
      let g2 : get_or t (k + 2) 0 ≡ get_or rest 0 0 = get_or-append-add ds more 2 0 in
      let l : letter_at t k ≡ p = ap letter_of g0 ∙ letter_place_lem p (omega arith) in
      let v : is_wide_token t k ≡ true = rw (l, lt-ltb p 6 h, g1) in
      let q : is_wide_token t k ≡ false → k ≡ 0 = λ y. absurd (true≢false (sym v ∙ y)) in
      let f : Lettered t k p = record { digits = parts_digits t k r.first r.few; letter = sym l; some = parts_letter t k (rw l (omega arith)) q } in
      let e : length t ≡ k + 2 + length rest = length-append ds more ∙ omega arith in
      let z = left_size x in
      let m : (mark_of (get_or t (k + 2) 0)).size ≡ i = ap (λ (b : ℕ). (mark_of b).size) g2 ∙ z.0 in
      ap (read_behind n t) r.count
      ∙ sym (out_left n t k f q (suffix_wide t k v) {mark = mark_of (get_or t (k + 2) 0)} refl (λ y. omega (arith, m, e, y, z.1)))
      ∙ ap (λ (j : ℕ). Err (fault 14 (k + 2 + j))) m

plain_refused : (n p : ℕ) {i : ℕ} (rest : List ℕ) → p < 9 → (p < 6 → get_or rest 0 0 ≡ 119 → ⊥) → ByteLeft i rest
    → read_token n (get_or kind_letters p 0 ∷ rest) ≡ Err (fault 14 (1 + i))
unfolding read_token is_wide_token
plain_refused n p {i} rest h other x =
    let t : List ℕ = get_or kind_letters p 0 ∷ rest in
    let r = width_read t (letter_is p) no_digits in
    let l : letter_at t 0 ≡ p = letter_place_lem p h in
    let v : is_wide_token t 0 ≡ false
    = bool_cases (ltb (letter_at t 0) 6) (λ a. rw (a, ne_eqb (get_or rest 0 0) 119 (other (omega (arith, ltb-true (letter_at t 0) 6 a))))) (λ a. rw a) in
    let f : Lettered t 0 p = record { digits = parts_digits t 0 r.first r.few; letter = sym l; some = parts_letter t 0 (rw l h) (λ y. refl) } in
    let z = left_size x in
    ap (read_behind n t) r.count
    ∙ sym (out_left n t 0 f (λ y. refl) (suffix_plain t 0 v) {mark = mark_of (get_or rest 0 0)} refl
    (λ y. let s : suc (length rest) ≡ 1 + (mark_of (get_or rest 0 0)).size = y in omega (arith, z.0, z.1)))
    ∙ ap (λ (j : ℕ). Err (fault 14 (1 + j))) z.0

fault_refused : (n k p : ℕ) (t : List ℕ) → Faulty k p t → read_token n t ≡ Err (fault k p)
fault_refused n _ _ _ (zero_first rest) = zero_refused n rest
fault_refused n _ _ _ (four_digits a b c d rest ha hb hc hd) = four_refused n a b c d rest ha hb hc hd
fault_refused n _ _ _ (no_letter_here rest d h none) = letter_refused n d rest h none
fault_refused n _ _ _ (no_w_here p rest h d some z) = w_refused n d p rest h some z
fault_refused n _ _ _ (plain_left p rest h z x) = plain_refused n p rest h z x
fault_refused n _ _ _ (wide_left p rest h d x) = wide_refused n d p rest h x

-- ---- a fault for what is no token

-- more than three digits
four_there : (t : List ℕ) → is_digit (get_or t 0 0) ≡ true → is_digit (get_or t 1 0) ≡ true → is_digit (get_or t 2 0) ≡ true → is_digit (get_or t 3 0) ≡ true
    → Faulty 13 0 t
unfolding is_digit digit_of between
four_there [] a b c d = absurd (true≢false (sym d))
four_there (x ∷ []) a b c d = absurd (true≢false (sym d))
four_there (x ∷ y ∷ []) a b c d = absurd (true≢false (sym d))
four_there (x ∷ y ∷ z ∷ []) a b c d = absurd (true≢false (sym d))
four_there (x ∷ y ∷ z ∷ v ∷ t) a b c d =
    let t' : List ℕ = x ∷ y ∷ z ∷ v ∷ t in
    let d0 = digit_back x (is_a_digit t' 0 a) in
    let d1 = digit_back y (is_a_digit t' 1 b) in
    let d2 = digit_back z (is_a_digit t' 2 c) in
    let d3 = digit_back v (is_a_digit t' 3 d) in
    let e : x ∷ y ∷ z ∷ v ∷ t ≡ (48 + digit_of x) ∷ (48 + digit_of y) ∷ (48 + digit_of z) ∷ (48 + digit_of v) ∷ t
    = λ i. d0.0 i ∷ d1.0 i ∷ d2.0 i ∷ d3.0 i ∷ t in
    subst (Faulty 13 0) (sym e) (four_digits (digit_of x) (digit_of y) (digit_of z) (digit_of v) t d0.1 d1.1 d2.1 d3.1)

four_fault : (t : List ℕ) → 3 < digits_of t → Faulty 13 0 t
unfolding digits_of
four_fault t h =
    bool_cases (is_digit (get_or t 0 0)) (λ a.
    bool_cases (is_digit (get_or t 1 0)) (λ b.
    bool_cases (is_digit (get_or t 2 0)) (λ c.
    bool_cases (is_digit (get_or t 3 0)) (λ d. four_there t a b c d)
    (λ d. let q : 3 < 3 = rw (a, b, c, d) at h in absurd (omega arith)))
    (λ c. let q : 3 < 2 = rw (a, b, c) at h in absurd (omega arith)))
    (λ b. let q : 3 < 1 = rw (a, b) at h in absurd (omega arith)))
    (λ a. let q : 3 < 0 = rw a at h in absurd (omega arith))

zero_fault : (t : List ℕ) → get_or t 0 0 ≡ 48 → Faulty 13 0 t
zero_fault [] e = absurd (omega arith)
zero_fault (x ∷ t) e = subst (λ (y : ℕ). Faulty 13 0 (y ∷ t)) (sym e) (zero_first t)

digits_fault : (t : List ℕ) → bad_digits t (digits_of t) ≡ true → Faulty 13 0 t
unfolding bad_digits
digits_fault t e =
    bool_cases (eqb (get_or t 0 0) 48)
    (λ u. zero_fault t (eqb-true _ _ u))
    (λ u. four_fault t (ltb-true 3 (digits_of t) (rw u at e)))

-- a face's letter that is not wide has no `w` after it
wide_else : (t : List ℕ) (k : ℕ) → letter_at t k < 6 → is_wide_token t k ≡ false → get_or t (k + 1) 0 ≡ 119 → ⊥
unfolding is_wide_token
wide_else t k l v e = true≢false (rw (lt-ltb _ 6 l, e) at v)

-- bytes left are behind the end
left_behind : (t : List ℕ) (k : ℕ) → letter_at t k < 9 → bytes_left t k ≡ true → token_end t k < length t
left_behind t k l d =
    let i = end_within t k l in
    less_cases (token_end t k) (length t) (λ lt. lt) (λ ge. absurd (true≢false (sym d ∙ end_left t k (omega arith))))

module _ (t : List ℕ) (a : bad_digits t (digits_of t) ≡ false) where
  front_width : Width (take (digits_of t) t) (token_width t (digits_of t))
  front_width = let z = digits_parts t (digits_of t) a in width_back t z.1 z.0

  front_end : DigitsEnd t (digits_of t)
  front_end = digits_end t (digits_parts t (digits_of t) a).1

  front_long : length (take (digits_of t) t) ≡ digits_of t
  front_long = length-take-le (digits_of t) t front_end.long

  behind_front : (i : ℕ) → get_or (drop i t) 0 0 ≡ get_or t i 0
  behind_front i = get_or-drop i t 0 0 ∙ ap (λ (j : ℕ). get_or t j 0) (omega arith)

  -- bytes are left behind the suffix that stands at i
  left_at : (i : ℕ) → i + (mark_of (get_or t i 0)).size < length t → ByteLeft (mark_of (get_or t i 0)).size (drop i t)
  left_at i h =
      let g = behind_front i in
      rw g at (left_back (drop i t) (rw g (omega (arith, h, length-drop i t))))

  letter_fault : no_letter t (digits_of t) ≡ true → HasFault t
  unfolding no_letter
  letter_fault b =
      let k : ℕ = digits_of t in
      let g = behind_front k in
      let l : pick (eqb k 0) 9 6 ≤ letter_at t k = leb-true (pick (eqb k 0) 9 6) (letter_at t k) b in
      subst HasFault (take-append-drop k t) (
        12,
        length (take k t),
        no_letter_here (drop k t) front_width
            (λ x h e. true≢false (sym (digit_is x h) ∙ ap is_digit (sym e ∙ g) ∙ front_end.ended))
            (λ p h e.
            let q : p < pick (eqb k 0) 9 6 = subst (λ (j : ℕ). p < pick (eqb j 0) 9 6) front_long h in
            let most : pick (eqb k 0) 9 6 ≤ 9 = bool_cases (eqb k 0) (λ u. rw u (omega arith)) (λ u. rw u (omega arith)) in
            let is : letter_at t k ≡ p = ap letter_of (sym g ∙ e) ∙ letter_place_lem p (omega arith) in
            omega arith),
      )

  module _ (b : no_letter t (digits_of t) ≡ false) where
    w_fault : no_w t (digits_of t) ≡ true → HasFault t
    unfolding no_w no_letter
    w_fault c =
        let k : ℕ = digits_of t in
        bool_cases (eqb k 0) (λ u. absurd (true≢false (sym (rw u at c)))) (λ u.
        let v : is_wide_token t k ≡ false = not_wide u c in
        let l : letter_at t k < 6 = leb-false 6 (letter_at t k) (rw u at b) in
        let z = eqb-false k 0 u in
        let i : k < length t = letter_stands t k (omega arith) in
        subst HasFault
        (ap (λ (x : ℕ). take k t ++ (x ∷ drop (suc k) t)) (letter_back (get_or t k 0) (omega arith)) ∙ ap (λ (x : List ℕ). take k t ++ x) (sym (drop-cons t k 0 i)) ∙ take-append-drop k t) (
          14,
          length (take k t) + 1,
          no_w_here (letter_at t k) (drop (suc k) t) l front_width (omega (arith, front_long))
              (λ e. wide_else t k l v (ap (λ (j : ℕ). get_or t j 0) (add-one k) ∙ sym (behind_front (suc k)) ∙ e)),
        ))
      where
        not_wide : eqb (digits_of t) 0 ≡ false → no_w t (digits_of t) ≡ true → is_wide_token t (digits_of t) ≡ false
        not_wide u e = not-true _ (rw u at e)

    left_fault : no_w t (digits_of t) ≡ false → bytes_left t (digits_of t) ≡ true → HasFault t
    left_fault c d =
        let k : ℕ = digits_of t in
        let o : token_end t k < length t = left_behind t k (letter_parts t k b) d in
        bool_cases (is_wide_token t k)
        (λ w.
        let l = wide_letter t k w in
        let m : suffix_at t k ≡ k + 2 = suffix_wide t k w in
        let i : k + 1 < length t = stands t (k + 1) (λ e. omega (arith, l.1)) in
        subst HasFault
        (ap (λ (x : ℕ). take k t ++ (x ∷ 119 ∷ drop (k + 2) t)) (letter_back (get_or t k 0) (omega (arith, l.0))) ∙ sym (split_wide t k (omega arith) l.1))
        (14, _, wide_left (letter_at t k) (drop (k + 2) t) l.0 front_width (left_at (k + 2) (rw m at o))))
        (λ w.
        let z : k ≡ 0 = w_parts t k c w in
        let p : letter_at t 0 < 9 = rw z at (letter_parts t k b) in
        let v : is_wide_token t 0 ≡ false = rw z at w in
        let m : suffix_at t 0 ≡ 1 = suffix_plain t 0 v in
        let i : 0 < length t = letter_stands t 0 p in
        let y : token_end t 0 < length t = rw z at o in
        subst HasFault (ap (λ (x : ℕ). x ∷ drop 1 t) (letter_back (get_or t 0 0) p) ∙ sym (split_plain t i))
        (14, _, plain_left (letter_at t 0) (drop 1 t) p (λ h e. wide_else t 0 h v (sym (behind_front 1) ∙ e)) (left_at 1 (rw m at y))))

-- a text has a fault, or is formed as a token of the grammar is
fault_cases {ℓ} : {A : Type ℓ} (t : List ℕ) → (HasFault t → A) → (Formed t (digits_of t) → A) → A
fault_cases t f g =
    bool_cases (bad_digits t (digits_of t)) (λ a. f (13, 0, digits_fault t a)) (λ a.
    bool_cases (no_letter t (digits_of t)) (λ b. f (letter_fault t a b)) (λ b.
    bool_cases (no_w t (digits_of t)) (λ c. f (w_fault t a b c)) (λ c.
    bool_cases (bytes_left t (digits_of t)) (λ d. f (left_fault t a b c d)) (λ d. g (formed_by t (digits_of t) a b c d)))))

-- ---- why a token is refused

no_5 : (k p : ℕ) (t : List ℕ) → Faulty k p t → k ≡ 5 → ⊥
no_5 _ _ _ (zero_first rest) e = omega arith
no_5 _ _ _ (four_digits a b c d rest ha hb hc hd) e = omega arith
no_5 _ _ _ (no_letter_here rest d h none) e = omega arith
no_5 _ _ _ (no_w_here p rest h d some z) e = omega arith
no_5 _ _ _ (plain_left p rest h z x) e = omega arith
no_5 _ _ _ (wide_left p rest h d x) e = omega arith

-- a number of the table that is not its last, so that no other has the same refusal
pub record OwnNumber (k : ℕ) : Type 0 where
  pub number : refusal_no (refusal k) ≡ k
  pub other : refusal k ≡ Level → ⊥

named_5 : OwnNumber 5
named_5 = record { number = refl; other = λ e. let z : ◌≡◌ {A = ℕ} 0 1 = cc in omega arith }

-- a token of the grammar has no fault
no_fault : (t : List ℕ) (m : Move) → HasFault t → Shaped t m → ⊥
no_fault t m (k, p, f) s = go (bad_width_in 2 (0 - 1) m) (sym (shaped_reads 0 s) ∙ fault_refused 0 k p t f)
  where
    go : (b : Bool) → ◌≡◌ {A = Result ℕ Fault} (pick b (Err (fault 5 0)) (Ok (code_of m))) (Err (fault k p)) → ⊥
    go true q = let z : fault 5 0 ≡ fault k p = cc in no_5 k p t f (number_only k (refusal 5) (sym (ap (λ (x : Fault). x.refusal) z)) (named_5).other)
    go false q = let z : ◌≡◌ {A = ℕ} 0 1 = cc in omega arith

pub fault_found : FaultFound
fault_found t =
    (λ h. fault_cases t (λ f. f) (λ g. absurd (h (token_move t (digits_of t)) (formed_shaped t g))), λ f m s. no_fault t m f s)

named : (k p : ℕ) (t : List ℕ) → Faulty k p t → OwnNumber k
named _ _ _ (zero_first rest) = record { number = refl; other = λ e. let z : ◌≡◌ {A = ℕ} 0 1 = cc in omega arith }
named _ _ _ (four_digits a b c d rest ha hb hc hd) = record { number = refl; other = λ e. let z : ◌≡◌ {A = ℕ} 0 1 = cc in omega arith }
named _ _ _ (no_letter_here rest d h none) = record { number = refl; other = λ e. let z : ◌≡◌ {A = ℕ} 0 1 = cc in omega arith }
named _ _ _ (no_w_here p rest h d some z) = record { number = refl; other = λ e. let z : ◌≡◌ {A = ℕ} 0 1 = cc in omega arith }
named _ _ _ (plain_left p rest h z x) = record { number = refl; other = λ e. let z : ◌≡◌ {A = ℕ} 0 1 = cc in omega arith }
named _ _ _ (wide_left p rest h d x) = record { number = refl; other = λ e. let z : ◌≡◌ {A = ℕ} 0 1 = cc in omega arith }

refusing_named : (n k p : ℕ) (t : List ℕ) → Refusing n k p t → OwnNumber k
refusing_named n k p t (for_fault f) = named k p t f
refusing_named n _ _ t (for_width m s z) = named_5

refusing_as : {n k k' p p' : ℕ} {t : List ℕ} → OwnNumber k → ◌≡◌ {A = Result ℕ Fault} (Err (fault k p)) (Err (fault k' p')) → Refusing n k p t
    → Refusing n k' p' t
refusing_as {n} {k} {k'} {p} {p'} {t} d e f =
    let z : fault k p ≡ fault k' p' = cc in
    let a : k ≡ k' = sym (number_only k' (refusal k) (sym (ap (λ (x : Fault). x.refusal) z)) d.other ∙ d.number) in
    let b : p ≡ p' = ap (λ (x : Fault). x.place) z in
    subst (λ (x : ℕ). Refusing n x p' t) a (subst (λ (x : ℕ). Refusing n k x t) b f)

refused_why : (n : ℕ) (t : List ℕ) (k p : ℕ) → read_token n t ≡ Err (fault k p) → Refusing n k p t
refused_why n t k p e =
    fault_cases t
    (λ f. refusing_as (named f.0 f.1 t f.2) (sym (fault_refused n f.0 f.1 t f.2) ∙ e) (for_fault f.2))
    (λ g.
    let m : Move = token_move t (digits_of t) in
    let s = formed_shaped t g in
    bool_cases (bad_width_in 2 (n - 1) m)
    (λ b.
    let q : ◌≡◌ {A = Result ℕ Fault} (Err (fault 5 0)) (Err (fault k p)) = rw b at (sym (shaped_reads n s) ∙ e) in
    refusing_as named_5 q (for_width m s (λ w. true≢false (sym b ∙ taken_width n m w))))
    (λ b.
    let q : ◌≡◌ {A = Result ℕ Fault} (Ok (code_of m)) (Err (fault k p)) = rw b at (sym (shaped_reads n s) ∙ e) in
    let z : ◌≡◌ {A = ℕ} 0 1 = cc in absurd (omega arith)))

why_refused : (n k p : ℕ) (t : List ℕ) → Refusing n k p t → read_token n t ≡ Err (fault k p)
why_refused n k p t (for_fault f) = fault_refused n k p t f
why_refused n _ _ t (for_width m s z) = shaped_reads n s ∙ ap (λ (b : Bool). pick b (Err (fault 5 0)) (Ok (code_of m))) (width_refused n m z)

pub refuses : Refuses
refuses n t k p = (refused_why n t k p, why_refused n k p t)

-- ---- and a text, for its first bad token

module _ (n k at : ℕ) (w : Run) (ws : List Run) (more : reading n ws ≡ bad k at → FirstBad n ws k at) where
  bad_cases : (t : Result ℕ Fault) (r : Reading) → read_token n w.bytes ≡ t → reading n ws ≡ r → ahead t w.start r ≡ bad k at → FirstBad n (w ∷ ws) k at
  unfolding reading
  bad_cases (Err f) r e d q =
      let a : refusal_no f.refusal ≡ k = cc in
      let b : w.start + f.place ≡ at = cc in
      let g : Err f ≡ Err (fault (refusal_no f.refusal) f.place) = ap (λ (x : Refusal). Err (record { refusal = x; place = f.place })) (sym (refusal_back f.refusal)) in
      record {
        before = [];
        word = w;
        after = ws;
        place = f.place;
        words_are = refl;
        fine = ([], refl);
        refused = subst (λ (x : ℕ). Refusing n x f.place w.bytes) a (refused_why n w.bytes (refusal_no f.refusal) f.place (e ∙ g));
        counted = sym b;
      }
  bad_cases (Ok c) (codes cs) e d q = let z : ◌≡◌ {A = ℕ} 0 1 = cc in absurd (omega arith)
  bad_cases (Ok c) (bad j a) e d q =
      let f = more (d ∙ q) in
      record {
        before = w ∷ f.before;
        word = f.word;
        after = f.after;
        place = f.place;
        words_are = ap (λ (x : List Run). w ∷ x) f.words_are;
        fine = (c ∷ f.fine.0, rw (e, f.fine.1));
        refused = f.refused;
        counted = f.counted;
      }

bad_found : (n : ℕ) (ws : List Run) (k at : ℕ) → reading n ws ≡ bad k at → FirstBad n ws k at
unfolding reading
bad_found n [] k at e = let z : ◌≡◌ {A = ℕ} 0 1 = cc in absurd (omega arith)
bad_found n (w ∷ ws) k at e = bad_cases n k at w ws (bad_found n ws k at) (read_token n w.bytes) (reading n ws) refl refl e

-- a refusal stands behind words that are read
module _ (n k at : ℕ) (rest : List Run) (h : reading n rest ≡ bad k at) where
  behind_cases : (t : Result ℕ Fault) (s : ℕ) (r r' : Reading) {cs : List ℕ} → ahead t s r ≡ codes cs → ((ds : List ℕ) → r ≡ codes ds → r' ≡ bad k at)
      → ahead t s r' ≡ bad k at
  behind_cases (Err f) s r r' e z = let y : ◌≡◌ {A = ℕ} 0 1 = cc in absurd (omega arith)
  behind_cases (Ok c) s (codes ds) r' e z = ap (ahead (Ok c) s) (z ds refl)
  behind_cases (Ok c) s (bad j a) r' e z = let y : ◌≡◌ {A = ℕ} 0 1 = cc in absurd (omega arith)

  behind_read : (before : List Run) {cs : List ℕ} → reading n before ≡ codes cs → reading n (before ++ rest) ≡ bad k at
  unfolding reading
  behind_read [] e = h
  behind_read (w ∷ ws) e =
      behind_cases (read_token n w.bytes) w.start (reading n ws) (reading n (ws ++ rest)) e (λ ds q. behind_read ws q)

found_bad : (n : ℕ) (ws : List Run) (k at : ℕ) → FirstBad n ws k at → reading n ws ≡ bad k at
unfolding reading
found_bad n ws k at f =
    let d : refusal_no (refusal k) ≡ k = (refusing_named n k f.place f.word.bytes f.refused).number in
    let here : reading n (f.word ∷ f.after) ≡ bad k at = rw (why_refused n k f.place f.word.bytes f.refused) (rw d (ap (bad k) (sym f.counted))) in
    ap (reading n) f.words_are ∙ behind_read n k at (f.word ∷ f.after) here f.before f.fine.1

pub first_refused : FirstRefused
first_refused n ws k at = (bad_found n ws k at, found_bad n ws k at)
