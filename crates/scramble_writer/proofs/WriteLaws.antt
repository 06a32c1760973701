-- Laws of a text that is stored token by token, and of the room that it takes.
use Prim.Native.Nat.{ℕ, ◌+◌, ◌-◌, ◌/◌, ◌%◌, ◌<◌, ◌≤◌}
use mathlib.Core.Path.{◌≡◌, refl, sym, ap, ◌∙◌}
use mathlib.Core.Bool.{true, false}
use mathlib.Core.List.{List, [], ◌∷◌, ◌++◌}
use native.Mathlib.Omega.{arith}
use native.Mathlib.Nat.{zero-add}
use lib.Dec.{leb, ltb, eqb}
use lib.ListN.{length, get_or, take, length-append}
use lib.Seq.{sets-eq}
use Rattle.std.specs.Prelude.{Result, Ok, Err}
use borrow.Author.Tests.{eq-eqb, ne_eqb, lt-ltb, le-ltb, lt-leb, le-leb, leb-true, leb-false, ltb-false, not-false}
use Rattle.ground.specs.declared.refusals.Refusal.{Refusal}
use Rattle.ground.specs.Lists.{each}
use Rattle.ground.specs.Inner.{Put}
use Rattle.ground.proofs.ChoiceLaws.{bool_cases}
use Rattle.ground.proofs.PutLaws.{put_none, put_then, each_upto, each_most}
use Rattle.ground.proofs.RefusalLaws.{passed, pass_lowest}
use Rattle.generic_cube.specs.Sizes.{sized}
use Rattle.generic_cube.specs.Code.{is_wide, read_code, rows_in, refusal_in}
use Rattle.generic_cube.specs.declared.Move.{Move}
use Rattle.generic_cube.proofs.AnswerLaws.{answer_value_lem}
use Rattle.generic_cube.proofs.CodeLaws.{taken, code_bounds, width_most}
use Rattle.scramble_writer.specs.Write.{kind_byte, mark_text, width_text, token_text, code_text, text_of, rest_text, list_text, write_rows, write_refusal, WriteResult}
use Rattle.scramble_writer.specs.Inner.{Writable}

-- ---- a width by cases

module _ {w : ℕ} where
  pub width_none : w ≡ 2 → width_text w ≡ []
  unfolding width_text
  width_none e = rw (eq-eqb w 2 e)

  pub width_one : (w ≡ 2 → ⊥) → w < 10 → width_text w ≡ (48 + w) ∷ []
  unfolding width_text
  width_one n l = rw (ne_eqb w 2 n, lt-ltb w 10 l)

  pub width_two : 10 ≤ w → w < 100 → width_text w ≡ (48 + w / 10) ∷ (48 + w % 10) ∷ []
  unfolding width_text
  width_two h l = rw (ne_eqb w 2 (omega arith), le-ltb w 10 h, lt-ltb w 100 l)

  pub width_three : 100 ≤ w → width_text w ≡ (48 + w / 100) ∷ (48 + w / 10 % 10) ∷ (48 + w % 10) ∷ []
  unfolding width_text
  width_three h = rw (ne_eqb w 2 (omega arith), le-ltb w 10 (omega arith), le-ltb w 100 h)

-- ---- a token

module _ (m : Move) where
  pub wide_length : is_wide m.kind ≡ true → length (token_text m) ≡ length (width_text m.width) + (2 + length (mark_text m.turn))
  unfolding token_text
  wide_length w = rw w (length-append (width_text m.width) (kind_byte m.kind ∷ 119 ∷ mark_text m.turn) ∙ omega arith)

  pub plain_length : is_wide m.kind ≡ false → length (token_text m) ≡ 1 + length (mark_text m.turn)
  unfolding token_text
  plain_length w = rw w (omega arith)

pub put_wide : (m : Move) {out o1 o2 o3 new : List ℕ} {at a b c r : ℕ} → is_wide m.kind ≡ true → Put out at (width_text m.width) o1 a
    → Put o1 a (kind_byte m.kind ∷ []) o2 b → Put o2 b (119 ∷ []) o3 c → Put o3 c (mark_text m.turn) new r → Put out at (token_text m) new r
unfolding token_text
put_wide m w p q s t = rw w (put_then p (put_then q (put_then s t)))

pub put_plain : (m : Move) {out o1 new : List ℕ} {at a r : ℕ} → is_wide m.kind ≡ false
    → Put out at (kind_byte m.kind ∷ []) o1 a → Put o1 a (mark_text m.turn) new r → Put out at (token_text m) new r
unfolding token_text
put_plain m w p q = rw w (put_then p q)

-- ---- a code: it is read, or it has no text

module _ (c : ℕ) {m : Move} (e : Ok m ≡ read_code c) where
  pub taken_text : text_of c ≡ token_text m
  taken_text = ap code_text (sym e)

  pub taken_fits : {out : List ℕ} {at : ℕ} → c < 65536 → at + length (text_of c) ≤ length out → Writable out at m
  taken_fits h f =
      let t = taken c m e in
      let k = code_bounds c t.1 in
      record { room = rw taken_text at f; kind = rw t.0 k.1; width = rw t.0 (omega (arith, width_most c (omega arith))) }

pub refused_text_lem : (c : ℕ) {r : Refusal} → Err r ≡ read_code c → text_of c ≡ []
refused_text_lem c e = ap code_text (sym e)

-- a text of a code has at most six bytes
mark_most : (t : ℕ) → length (mark_text t) ≤ 1
unfolding mark_text
mark_most t =
    bool_cases (eqb t 1) (λ a. rw a (omega arith)) (λ a. bool_cases (eqb t 2) (λ b. rw (a, b) (omega arith)) (λ b. rw (a, b) (omega arith)))

width_text_most : (w : ℕ) → length (width_text w) ≤ 3
unfolding width_text
width_text_most w =
    bool_cases (eqb w 2) (λ a. rw a (omega arith)) (λ a.
    bool_cases (ltb w 10) (λ b. rw (a, b) (omega arith)) (λ b.
    bool_cases (ltb w 100) (λ d. rw (a, b, d) (omega arith)) (λ d. rw (a, b, d) (omega arith))))

token_most : (m : Move) → length (token_text m) ≤ 6
token_most m =
    bool_cases (is_wide m.kind)
    (λ w. omega (arith, wide_length m w, width_text_most m.width, mark_most m.turn))
    (λ w. omega (arith, plain_length m w, mark_most m.turn))

code_most : (r : Result Move Refusal) → length (code_text r) ≤ 6
code_most (Ok m) = token_most m
code_most (Err r) = omega arith

pub text_most : (c : ℕ) → length (text_of c) ≤ 6
text_most c = code_most (read_code c)

-- ---- the whole text

text_empty : (cs : List ℕ) → length cs ≡ 0 → list_text cs ≡ []
unfolding list_text
text_empty [] e = refl
text_empty (c ∷ cs) e = absurd (omega arith)

pub put_empty : (cs : List ℕ) {out : List ℕ} → length cs ≡ 0 → Put out 0 (list_text cs) out 0
put_empty cs e = rw (text_empty cs e) put_none

pub fits_empty : (cs : List ℕ) (room : ℕ) → length cs ≡ 0 → leb (length (list_text cs)) room ≡ true
fits_empty cs room e = rw (text_empty cs e) (le-leb 0 room (omega arith))

module _ {cs rest : List ℕ} {c : ℕ} (e : cs ≡ c ∷ rest) where
  text_first : list_text cs ≡ text_of c ++ rest_text rest
  unfolding list_text
  text_first = rw e

  pub text_length : length (list_text cs) ≡ length (text_of c) + length (rest_text rest)
  text_length = rw text_first (length-append (text_of c) (rest_text rest))

  pub put_text : {out mid new : List ℕ} {a r : ℕ} → Put out 0 (text_of c) mid a → Put mid a (rest_text rest) new r → Put out 0 (list_text cs) new r
  put_text p q = rw text_first (put_then p q)

  pub fits_short : (room : ℕ) → room < length (text_of c) → leb (length (list_text cs)) room ≡ false
  fits_short room h = lt-leb (length (list_text cs)) room (omega (arith, text_length))

  pub fits_rest : (room : ℕ) → length (text_of c) ≤ room → leb (length (rest_text rest)) (room - length (text_of c)) ≡ leb (length (list_text cs)) room
  fits_rest room h =
      let f = length (text_of c) in
      let r = length (rest_text rest) in
      let l = text_length in
      bool_cases (leb r (room - f))
      (λ t. let q = leb-true r (room - f) t in t ∙ sym (le-leb (length (list_text cs)) room (omega arith)))
      (λ t. let q = leb-false r (room - f) t in t ∙ sym (lt-leb (length (list_text cs)) room (omega arith)))

-- ---- the room: `left` of it is left behind the first i tokens

pub record Left (cs : List ℕ) (room left i : ℕ) : Type 0 where
  pub within : i ≤ length cs
  pub spent : room ≡ left + length (rest_text (take i cs))

pub left_none : {cs : List ℕ} {room : ℕ} → Left cs room room 0
unfolding rest_text each
left_none = record { within = omega arith; spent = omega arith }

module _ {cs : List ℕ} {room left i : ℕ} (g : Left cs room left i) where
  next_text : i < length cs → length (rest_text (take (i + 1) cs)) ≡ length (rest_text (take i cs)) + (1 + length (text_of (get_or cs i 0)))
  unfolding rest_text
  next_text h = each_upto cs (λ c. 32 ∷ text_of c) i h ∙ omega arith

  pub left_more : i < length cs → 1 + length (text_of (get_or cs i 0)) ≤ left → Left cs room (left - (1 + length (text_of (get_or cs i 0)))) (i + 1)
  left_more h f = record { within = omega arith; spent = g.spent ∙ omega (arith, next_text h) }

  pub left_short : i < length cs → left < 1 + length (text_of (get_or cs i 0)) → leb (length (rest_text cs)) room ≡ false
  unfolding rest_text
  left_short h f =
      let m : length (rest_text (take (i + 1) cs)) ≤ length (rest_text cs) = each_most cs (λ c. 32 ∷ text_of c) (i + 1) in
      lt-leb (length (rest_text cs)) room (omega (arith, g.spent, next_text h))

-- ---- the result

pub record WriteFits (n : ℕ) (cs : List ℕ) (room : ℕ) : Type 0 where
  pub size : sized n ≡ true
  pub list : refusal_in 2 (n - 1) cs ≡ 0
  pub fits : length (list_text cs) ≤ room

-- what is known where nothing is refused
pub write_fits : (n : ℕ) (cs : List ℕ) (room : ℕ) → write_refusal n cs room ≡ 0 → WriteFits n cs room
unfolding write_refusal refusal_in
write_fits n cs room e =
    let p = passed (write_rows n cs room) refl e in
    record {
      size = not-false _ p.0;
      list = pass_lowest (rows_in 2 (n - 1) cs) (p.1.0, (p.1.1.0, tt));
      fits = ltb-false _ _ p.1.1.1.0;
    }

pub write_done : (n : ℕ) (cs : List ℕ) {out new : List ℕ} {r : ℕ} → write_refusal n cs (length out) ≡ 0 → Put out 0 (list_text cs) new r
    → WriteResult n cs out new (Ok r)
write_done n cs {out} g p =
    let e = zero-add (length (list_text cs)) in
    let f : 0 + length (list_text cs) ≤ length out = omega (arith, (write_fits n cs (length out) g).fits) in
    answer_value_lem g (p.next ∙ e) (p.stored ∙ sets-eq (list_text cs) out 0 f ∙ rw e)
