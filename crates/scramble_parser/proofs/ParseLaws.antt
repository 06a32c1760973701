-- Laws of readings: what the two passes of the parser find, one word on, and what every accepted text is.
use Prim.Native.Nat.{ℕ, ◌+◌, ◌-◌, ◌≤◌, ◌<◌}
use mathlib.Core.Path.{◌≡◌, refl, sym, ap, ◌∙◌, subst}
use mathlib.Core.Bool.{true, false}
use mathlib.Core.List.{List, [], ◌∷◌}
use native.Mathlib.Omega.{arith}
use native.Mathlib.Numerals.{add-one}
use native.Mathlib.Nat.{zero-add}
use lib.ListN.{length, take, drop, set, length-set, length-drop}
use lib.Seq.{sets, sets-eq, length-take-le}
use Rattle.std.specs.Prelude.{Result, Ok, Err}
use borrow.Author.Tests.{le-ltb, lt-ltb}
use Rattle.ground.specs.Refusals.{refusal_no, refusal}
use Rattle.ground.proofs.ChoiceLaws.{bool_cases}
use Rattle.ground.proofs.RefusalLaws.{refusal_back}
use Rattle.generic_cube.specs.Sizes.{sized}
use Rattle.generic_cube.specs.Code.{move_of, is_wide, refusal_in, list_refusal}
use Rattle.generic_cube.proofs.CodeLaws.{Good, AllGood, good_taken, inside, inside_not}
use Rattle.tokens.specs.Token.{fault, read_token}
use Rattle.tokens.specs.Words.{Run, words_from, tokens_of}
use Rattle.tokens.specs.Inner.{Found}
use Rattle.tokens.specs.declared.Fault.{Fault}
use Rattle.tokens.proofs.WordLaws.{words_few}
use Rattle.tokens.proofs.TokenLaws.{token_good, place_within}
use Rattle.scramble_parser.specs.Parse.{Reading, codes, bad, ahead, reading, text_refused, refused_at, read_answer, read_out, ReadResult, scramble_reading, ParseResult}
use Rattle.scramble_parser.specs.Inner.{in_text, tally, up_to, prefix}
use Rattle.scramble_parser.specs.declared.ParseError.TheVariants.{At}

-- ---- a word of the text

-- a word reads as a code if its token does, and the place of its fault is within the text
pub read_of : (s : ℕ) {c : ℕ} (t : Result ℕ Fault) → Ok c ≡ in_text s t → Ok c ≡ t
read_of s (Ok d) e = e
read_of s (Err f) e = let z : ◌≡◌ {A = ℕ} 0 1 = cc in absurd (omega arith)

pub fault_within : (n : ℕ) (text : List ℕ) {s e : ℕ} → s ≤ e → e ≤ length text → {f : Fault}
    → Err f ≡ read_token n (take (e - s) (drop s text)) → s + f.place ≤ length text
fault_within n text {s} {e} a b {f} t =
    omega (arith, place_within n (take (e - s) (drop s text)) t, length-take-le (e - s) (drop s text) (omega (arith, length-drop s text)))

-- ---- the pass that counts

pub record Counted (n : ℕ) (text : List ℕ) (i count : ℕ) : Type 0 where
  pub within : i ≤ length text
  pub few : count ≤ i
  pub same : tally count (reading n (words_from [] text i)) ≡ tally 0 (reading n (tokens_of text))

tally_is : (count c s : ℕ) (r : Reading) → tally count (ahead (Ok c) s r) ≡ tally (count + 1) r
tally_is count c s (codes cs) = ap Ok (omega arith)
tally_is count c s (bad k at) = refl

tally_bad : (count : ℕ) (t : Result ℕ Fault) (s : ℕ) (r : Reading) {b : Fault} → Err b ≡ in_text s t → Err b ≡ tally count (ahead t s r)
tally_bad count (Ok c) s r e = let z : ◌≡◌ {A = ℕ} 0 1 = cc in absurd (omega arith)
tally_bad count (Err f) s r e = rw (refusal_back f.refusal) e

module _ {n : ℕ} {text : List ℕ} {i count : ℕ} (g : Counted n text i count) where
  pub count_end : words_from [] text i ≡ [] → Ok count ≡ tally 0 (reading n (tokens_of text))
  unfolding reading
  count_end h = ap Ok (omega arith) ∙ (rw h at g.same)

  module _ {s e : ℕ} (f : Found [] text i s e) where
    pub count_more : {c : ℕ} → Ok c ≡ in_text s (read_token n (take (e - s) (drop s text))) → Counted n text e (count + 1)
    unfolding reading
    count_more {c} w =
        let t = read_of s (read_token n (take (e - s) (drop s text))) w in
        record {
          within = f.within;
          few = omega arith;
          same = rw (f.one, ← t) (sym (tally_is count c s (reading n (words_from [] text e)))) ∙ g.same;
        }

    pub count_bad : {b : Fault} → Err b ≡ in_text s (read_token n (take (e - s) (drop s text))) → Err b ≡ tally 0 (reading n (tokens_of text))
    unfolding reading
    count_bad t = tally_bad count (read_token n (take (e - s) (drop s text))) s (reading n (words_from [] text e)) t ∙ (rw f.one at g.same)

-- ---- the pass that writes

-- the codes of the words before place i are stored in the first j slots
pub record Stored (n : ℕ) (text out₀ out : List ℕ) (i j : ℕ) : Type 0 where
  pub within : i ≤ length text
  pub long : length out ≡ length out₀
  pub room : j + length (prefix n (words_from [] text i)) ≤ length out
  pub same : sets out j (prefix n (words_from [] text i)) ≡ sets out₀ 0 (prefix n (tokens_of text))

none_of : (s : ℕ) (t : Result ℕ Fault) (cs : List ℕ) {b : Fault} → Err b ≡ in_text s t → up_to t cs ≡ []
none_of s (Ok c) cs e = let z : ◌≡◌ {A = ℕ} 0 1 = cc in absurd (omega arith)
none_of s (Err f) cs e = refl

module _ {n : ℕ} {text out₀ out : List ℕ} {i j : ℕ} (g : Stored n text out₀ out i j) where
  pub store_end : words_from [] text i ≡ [] → out ≡ sets out₀ 0 (prefix n (tokens_of text))
  unfolding prefix
  store_end h = rw h at g.same

  module _ {s e : ℕ} (f : Found [] text i s e) where
    pub store_bad : {b : Fault} → Err b ≡ in_text s (read_token n (take (e - s) (drop s text))) → out ≡ sets out₀ 0 (prefix n (tokens_of text))
    unfolding prefix
    store_bad t = rw (f.one, none_of s (read_token n (take (e - s) (drop s text))) (prefix n (words_from [] text e)) t) at g.same

    module _ {c : ℕ} (t : Ok c ≡ in_text s (read_token n (take (e - s) (drop s text)))) where
      prefix_step : prefix n (words_from [] text i) ≡ c ∷ prefix n (words_from [] text e)
      unfolding prefix
      prefix_step = rw (f.one, ← read_of s (read_token n (take (e - s) (drop s text))) t)

      pub store_more : Stored n text out₀ (set out j c) e (j + 1)
      store_more =
          let l = rw prefix_step at g.room in
          let q = rw prefix_step at g.same in
          record { within = f.within; long = simp length-set g.long; room = simp length-set (omega arith); same = rw add-one q }

-- ---- the two passes together

prefix-ahead : (t : Result ℕ Fault) (s : ℕ) (r : Reading) (ps cs : List ℕ) → ((ds : List ℕ) → r ≡ codes ds → ps ≡ ds)
    → ahead t s r ≡ codes cs → up_to t ps ≡ cs
prefix-ahead (Err f) s r ps cs h e = let z : ◌≡◌ {A = ℕ} 0 1 = cc in absurd (omega arith)
prefix-ahead (Ok c) s (codes ds) ps cs h e =
    let p : ps ≡ ds = h ds refl in
    cc
prefix-ahead (Ok c) s (bad k a) ps cs h e = let z : ◌≡◌ {A = ℕ} 0 1 = cc in absurd (omega arith)

pub prefix_codes : (n : ℕ) (ws : List Run) (cs : List ℕ) → reading n ws ≡ codes cs → prefix n ws ≡ cs
unfolding prefix reading
prefix_codes n [] cs e = cc
prefix_codes n (w ∷ ws) cs e =
    prefix-ahead (read_token n w.bytes) w.start (reading n ws) (prefix n ws) cs (prefix_codes n ws) e

good_of : (r : Reading) (count : ℕ) → Ok count ≡ tally 0 r → (cs : List ℕ) × (r ≡ codes cs) × (length cs ≡ count)
good_of (codes cs) count e = let q : count ≡ 0 + length cs = cc in (cs, refl, omega arith)
good_of (bad k at) count e = let z : ◌≡◌ {A = ℕ} 0 1 = cc in absurd (omega arith)

bad_of : (r : Reading) {f : Fault} → Err f ≡ tally 0 r → (k : ℕ) × (at : ℕ) × (r ≡ bad k at) × (f ≡ fault k at)
bad_of (codes cs) e = let z : ◌≡◌ {A = ℕ} 0 1 = cc in absurd (omega arith)
bad_of (bad k at) e = (k, at, refl, cc)

-- what a reader answers, by what its text reads as
module _ (n : ℕ) (r : Reading) (out : List ℕ) where
  pub read_size : sized n ≡ false → ReadResult n r out out (text_refused 1)
  unfolding read_answer read_out
  read_size s = record { answered = rw s; written = rw s }

  module _ (s : sized n ≡ true) where
    pub read_bad : {k at : ℕ} → r ≡ bad k at → ReadResult n r out out (refused_at k at)
    unfolding read_answer read_out
    read_bad b = record { answered = simp (s, b); written = simp (s, b) }

    module _ {cs : List ℕ} (g : r ≡ codes cs) where
      pub read_short : length out < length cs → ReadResult n r out out (text_refused 6)
      unfolding read_answer read_out
      read_short h =
          let l = lt-ltb (length out) (length cs) h in
          record { answered = simp (s, g, l); written = simp (s, g, l) }

      pub read_good : {new : List ℕ} {count : ℕ} → length cs ≤ length out → count ≡ length cs → new ≡ sets out 0 cs → ReadResult n r out new (Ok count)
      unfolding read_answer read_out
      read_good h c w =
          let l = le-ltb (length out) (length cs) h in
          record { answered = ap Ok c ∙ sym (simp (s, g, l)); written = w ∙ sets-eq cs out 0 (omega arith) ∙ simp (s, g, l, zero-add) }

module _ (n : ℕ) (text out : List ℕ) (s : sized n ≡ true) where
  pub parse_bad : {f : Fault} → Err f ≡ tally 0 (scramble_reading n text) → ParseResult n text out out (Err (At f))
  parse_bad e =
      let b = bad_of (scramble_reading n text) e in
      subst (λ (x : Fault). ParseResult n text out out (Err (At x))) (sym b.3) (read_bad n (scramble_reading n text) out s b.2)

  module _ {count : ℕ} (e : Ok count ≡ tally 0 (scramble_reading n text)) where
    found_codes : (cs : List ℕ) × (scramble_reading n text ≡ codes cs) × (length cs ≡ count)
    found_codes = good_of (scramble_reading n text) count e

    pub parse_short : length out < count → ParseResult n text out out (text_refused 6)
    parse_short h = let g = found_codes in read_short n (scramble_reading n text) out s g.1 (omega arith)

    module _ (h : count ≤ length out) where
      pub parse_room : length (prefix n (tokens_of text)) ≤ length out
      parse_room = let g = found_codes in rw (prefix_codes n (tokens_of text) g.0 g.1) (omega arith)

      pub parse_good : {new : List ℕ} → new ≡ sets out 0 (prefix n (tokens_of text)) → ParseResult n text out new (Ok count)
      parse_good w =
          let g = found_codes in
          read_good n (scramble_reading n text) out s g.1 (omega arith) (sym g.2) (w ∙ ap (sets out 0) (prefix_codes n (tokens_of text) g.0 g.1))

-- ---- a text's refusal has a number of the table, so that its fault tells the whole reading

ahead_listed : (t : Result ℕ Fault) (s : ℕ) (r : Reading) → ((k at : ℕ) → r ≡ bad k at → refusal_no (refusal k) ≡ k)
    → (k at : ℕ) → ahead t s r ≡ bad k at → refusal_no (refusal k) ≡ k
ahead_listed (Err f) s r h k at e =
    let q : refusal_no f.refusal ≡ k = cc in
    subst (λ (x : ℕ). refusal_no (refusal x) ≡ x) q (ap refusal_no (refusal_back f.refusal))
ahead_listed (Ok c) s (codes cs) h k at e = let z : ◌≡◌ {A = ℕ} 0 1 = cc in absurd (omega arith)
ahead_listed (Ok c) s (bad j p) h k at e = h k at e

pub reading_listed : (n : ℕ) (ws : List Run) (k at : ℕ) → reading n ws ≡ bad k at → refusal_no (refusal k) ≡ k
unfolding reading
reading_listed n [] k at e = let z : ◌≡◌ {A = ℕ} 0 1 = cc in absurd (omega arith)
reading_listed n (w ∷ ws) k at e = ahead_listed (read_token n w.bytes) w.start (reading n ws) (reading_listed n ws) k at e

-- ---- the codes of a text that is accepted

-- a width that the notation takes is one that is applied
pub good_wider : (n c : ℕ) → Good 2 (n - 1) c → Good 1 n c
good_wider n c g =
    record {
      code = g.code;
      width = bool_cases (is_wide (move_of c).kind)
          (λ w. let k = inside 2 (n - 1) (move_of c).width (rw w at g.width) in
          rw w (inside_not 1 n (move_of c).width (omega arith) (omega arith)))
          (λ w. rw w);
    }

up_good : (n : ℕ) (t : List ℕ) (k : Result ℕ Fault) (cs : List ℕ) → read_token n t ≡ k → AllGood 1 n cs → AllGood 1 n (up_to k cs)
unfolding AllGood
up_good n t (Ok c) cs e g = (good_wider n c (token_good n t c e), g)
up_good n t (Err f) cs e g = tt

prefix_good : (n : ℕ) (ws : List Run) → AllGood 1 n (prefix n ws)
unfolding prefix AllGood
prefix_good n [] = tt
prefix_good n (w ∷ ws) = up_good n w.bytes (read_token n w.bytes) (prefix n ws) refl (prefix_good n ws)

-- every accepted scramble is a list that is taken
pub reading_taken : (n : ℕ) (ws : List Run) (cs : List ℕ) → reading n ws ≡ codes cs → list_refusal n cs ≡ 0
unfolding list_refusal refusal_in
reading_taken n ws cs e = good_taken 1 n cs (subst (AllGood 1 n) (prefix_codes n ws cs e) (prefix_good n ws))

-- ---- how many there are

up_few : (k : Result ℕ Fault) (cs : List ℕ) → length (up_to k cs) ≤ 1 + length cs
up_few (Ok c) cs = omega arith
up_few (Err f) cs = omega arith

prefix_few : (n : ℕ) (ws : List Run) → length (prefix n ws) ≤ length ws
unfolding prefix
prefix_few n [] = omega arith
prefix_few n (w ∷ ws) = omega (arith, up_few (read_token n w.bytes) (prefix n ws), prefix_few n ws)

pub reading_few : (n : ℕ) (text cs : List ℕ) → reading n (tokens_of text) ≡ codes cs → length cs ≤ length text
reading_few n text cs e =
    let l = ap length (prefix_codes n (tokens_of text) cs e) in
    omega (arith, prefix_few n (tokens_of text), words_few [] 0 false text)
