-- Laws of the grammar: where a part ends and what its codes are, that calls enough are enough, and the readers one word on.
use Prim.Native.Nat.{ℕ, zero, suc, ◌+◌, ◌-◌, ◌*◌, ◌≤◌, ◌<◌}
use mathlib.Core.Path.{◌≡◌, refl, sym, ap, subst, ◌∙◌}
use mathlib.Core.Bool.{Bool, true, false, ◌||◌}
use mathlib.Core.List.{List, []}
use native.Mathlib.Omega.{arith}
use native.Mathlib.Numerals.{add-one}
use lib.ListN.{length, get_or, take, drop, length-drop}
use lib.Seq.{get_or-take, get_or-drop, length-take-le}
use lib.Dec.{eqb}
use Rattle.std.specs.Prelude.{Result, Ok, Err}
use borrow.Author.Tests.{eqb-true}
use Rattle.ground.specs.Choice.{between}
use Rattle.ground.proofs.ChoiceLaws.{bool_cases, between_bounds}
use Rattle.generic_cube.proofs.CodeLaws.{AllGood}
use Rattle.tokens.specs.Words.{group_signs, Run, words_from}
use Rattle.tokens.specs.Token.{read_token}
use Rattle.tokens.specs.Inner.{Found}
use Rattle.tokens.specs.declared.Fault.{Fault}
use Rattle.tokens.proofs.WordLaws.{first_word}
use Rattle.tokens.proofs.TokenLaws.{token_good, stands}
use Rattle.move_lists.proofs.ListLaws.{good_append, good_inverse}
use Rattle.scramble_parser.proofs.ParseLaws.{good_wider}
use Rattle.algorithm_parser.specs.Algorithm.{Alg, nothing, move, both, repeated, copies, expand}
use Rattle.algorithm_parser.specs.Groups.{Outcome, means, wrong, and_then, front, Sort, opening, other, token, sort_of, token_then, word_then, round_end, square_end, paired, second_then, group_then, sequence_of, group_of, sequence_calls, group_calls, sequence_at, group_at}

-- the word from s to e
abbrev pub word_of : List ℕ → ℕ → ℕ → Run
word_of text s e = record { start = s; bytes = take (e - s) (drop s text) }

module _ {text : List ℕ} {i s e : ℕ} (f : Found group_signs text i s e) where
  word_long : length (take (e - s) (drop s text)) ≡ e - s
  word_long = length-take-le (e - s) (drop s text) (omega (arith, length-drop s text, f.within))

  pub word_byte : get_or (take (e - s) (drop s text)) 0 0 ≡ get_or text s 0
  word_byte =
      get_or-take (e - s) (drop s text) 0 0 (omega (arith, f.some)) ∙ get_or-drop s text 0 0 ∙ ap (λ (k : ℕ). get_or text k 0) (omega arith)

  pub word_ends : s + length (take (e - s) (drop s text)) ≡ e
  word_ends = omega (arith, word_long, f.some)

-- ---- one word on, with so many calls

module _ (n : ℕ) (text : List ℕ) (calls left i : ℕ) where
  pub calls_none : words_from group_signs text i ≡ [] → sequence_of n text (suc calls) left i ≡ means nothing (length text)
  unfolding sequence_of
  calls_none h = rw h

  pub calls_word : {s e : ℕ} → Found group_signs text i s e → sequence_of n text (suc calls) left i
      ≡ word_then (sort_of (get_or text s 0)) n left (word_of text s e) (λ s. group_of n text calls (left - 1) s) (λ e. sequence_of n text calls left e)
  unfolding sequence_of
  calls_word f = rw (f.one, word_byte f)

-- ---- what a good outcome has: it ends behind its start and within the text, and its codes are taken

pub record Sound (n : ℕ) (text : List ℕ) (lo : ℕ) (a : Alg) (e : ℕ) : Type 0 where
  pub from : lo ≤ e
  pub within : e ≤ length text
  pub good : AllGood 1 n (expand a)

abbrev pub Fine : ℕ → List ℕ → ℕ → Outcome → Type 0
Fine n text lo (means a e) = Sound n text lo a e
Fine n text lo (wrong k p) = Unit {0}

good_none : (n : ℕ) → AllGood 1 n (expand nothing)
unfolding expand AllGood
good_none n = tt

good_both : (n : ℕ) (a b : Alg) → AllGood 1 n (expand a) → AllGood 1 n (expand b) → AllGood 1 n (expand (both a b))
unfolding expand
good_both n a b g h = good_append 1 n (expand a) (expand b) g h

good_copies : (n k : ℕ) (cs : List ℕ) → AllGood 1 n cs → AllGood 1 n (copies k cs)
unfolding copies AllGood
good_copies n zero cs g = tt
good_copies n (suc k) cs g = good_append 1 n cs (copies k cs) g (good_copies n k cs g)

good_repeated : (n k : ℕ) (a : Alg) → AllGood 1 n (expand a) → AllGood 1 n (expand (repeated k a))
unfolding expand
good_repeated n k a g = good_copies n k (expand a) g

good_paired : (n sign : ℕ) (a b : Alg) → AllGood 1 n (expand a) → AllGood 1 n (expand b) → AllGood 1 n (expand (paired sign a b))
unfolding paired expand
good_paired n sign a b g h =
    let ab = good_append 1 n (expand a) (expand b) g h in
    let a⁻ = good_inverse 1 n (expand a) g in
    bool_cases (eqb sign 44)
    (λ t. rw t (good_append 1 n _ _ ab (good_append 1 n _ _ a⁻ (good_inverse 1 n (expand b) h))))
    (λ t. rw t (good_append 1 n _ _ ab a⁻))

good_token : (n : ℕ) (t : List ℕ) (c : ℕ) → read_token n t ≡ Ok c → AllGood 1 n (expand (move c))
unfolding expand AllGood
good_token n t c e = (good_wider n c (token_good n t c e), tt)

-- a byte that is not 0 stands in the text
byte_within : (text : List ℕ) (e b : ℕ) → 0 < b → eqb (get_or text e 0) b ≡ true → e < length text
byte_within text e b p t = let q = eqb-true (get_or text e 0) b t in stands text e (λ z. omega arith)

digit_within : (text : List ℕ) (e : ℕ) → between 49 57 (get_or text e 0) ≡ true → e < length text
digit_within text e t = let q = between_bounds 49 57 (get_or text e 0) t in stands text e (λ z. omega (arith, q.0))

pub parting_within : (text : List ℕ) (e : ℕ) → (eqb (get_or text e 0) 44 || eqb (get_or text e 0) 58) ≡ true → e < length text
parting_within text e =
    bool_cases (eqb (get_or text e 0) 44) (λ t. rw t (λ h. byte_within text e 44 (omega arith) t)) (λ t. rw t (λ h. byte_within text e 58 (omega arith) h))

module _ (n : ℕ) (text : List ℕ) where
  fine_then : (lo mid : ℕ) (o : Outcome) (next : Alg → ℕ → Outcome) → Fine n text mid o
      → ((a : Alg) (e : ℕ) → Sound n text mid a e → Fine n text lo (next a e)) → Fine n text lo (and_then o next)
  fine_then lo mid (means a e) next s f = f a e s
  fine_then lo mid (wrong k p) next s f = tt

  fine_front : (lo mid : ℕ) (a : Alg) (o : Outcome) → lo ≤ mid → AllGood 1 n (expand a) → Fine n text mid o → Fine n text lo (front a o)
  fine_front lo mid a (means b e) h g s =
      record { from = omega (arith, s.from); within = s.within; good = good_both n a b g s.good }
  fine_front lo mid a (wrong k p) h g s = tt

  fine_token : (lo e : ℕ) (t : List ℕ) (r : Result ℕ Fault) (s : ℕ) (o : Outcome) → read_token n t ≡ r → lo ≤ e → Fine n text e o → Fine n text lo (token_then r s o)
  fine_token lo e t (Ok c) s o q h g = fine_front lo e (move c) o h (good_token n t c q) g
  fine_token lo e t (Err f) s o q h g = tt

  fine_word : {i s e : ℕ} (sort : Sort) (left : ℕ) (group rest : ℕ → Outcome) → Found group_signs text i s e → Fine n text (s + 1) (group s)
      → ((d : ℕ) → d ≤ length text → Fine n text d (rest d)) → Fine n text i (word_then sort n left (word_of text s e) group rest)
  fine_word opening zero group rest f g r = tt
  fine_word {i} {s} opening (suc left) group rest f g r =
      fine_then i (s + 1) (group s) (λ a e. front a (rest e)) g (λ a e q. fine_front i e a (rest e) (omega (arith, f.from, q.from)) q.good (r e q.within))
  fine_word other left group rest f g r =
      record { from = f.from; within = omega (arith, f.some, f.within); good = good_none n }
  fine_word {i} {s} {e} token left group rest f g r =
      fine_token i e (take (e - s) (drop s text)) (read_token n (take (e - s) (drop s text))) s (rest (s + length (take (e - s) (drop s text)))) refl
      (omega (arith, f.from, f.some)) (subst (λ (d : ℕ). Fine n text e (rest d)) (sym (word_ends f)) (r e f.within))

  fine_round : {lo : ℕ} (a : Alg) (e : ℕ) → Sound n text lo a e → Fine n text lo (round_end text a e)
  unfolding round_end
  fine_round a e s =
      bool_cases (eqb (get_or text e 0) 41)
      (λ t. let h = byte_within text e 41 (omega arith) t in
      bool_cases (between 49 57 (get_or text (e + 1) 0))
      (λ u. let d = digit_within text (e + 1) u in
      rw (t, u) (record { from = omega (arith, s.from); within = omega arith; good = good_repeated n (get_or text (e + 1) 0 - 48) a s.good }))
      (λ u. rw (t, u) (record { from = omega (arith, s.from); within = omega arith; good = good_repeated n 1 a s.good })))
      (λ t. rw t tt)

  fine_square : (lo : ℕ) (a : Alg) (e : ℕ) → lo ≤ e → AllGood 1 n (expand a) → Fine n text lo (square_end text a e)
  unfolding square_end
  fine_square lo a e h g =
      bool_cases (eqb (get_or text e 0) 93)
      (λ t. let w = byte_within text e 93 (omega arith) t in
      rw t (record { from = omega arith; within = omega arith; good = g }))
      (λ t. rw t tt)

  fine_second : {lo : ℕ} (t : Bool) (a : Alg) (e : ℕ) (rest : ℕ → Outcome) → Sound n text lo a e → (t ≡ true → e < length text)
      → ((d : ℕ) → d ≤ length text → Fine n text d (rest d)) → Fine n text lo (second_then t text a e rest)
  fine_second {lo} true a e rest s h r =
      fine_then lo (e + 1) (rest (e + 1)) (λ b d. square_end text (paired (get_or text e 0) a b) d) (r (e + 1) (omega (arith, h refl)))
      (λ b d q. fine_square lo (paired (get_or text e 0) a b) d (omega (arith, s.from, q.from)) (good_paired n (get_or text e 0) a b s.good q.good))
  fine_second false a e rest s h r = tt

  fine_group : {lo : ℕ} (t : Bool) (a : Alg) (e : ℕ) (rest : ℕ → Outcome) → Sound n text lo a e
      → ((d : ℕ) → d ≤ length text → Fine n text d (rest d)) → Fine n text lo (group_then t text a e rest)
  fine_group true a e rest s r = fine_round a e s
  fine_group false a e rest s r = fine_second (eqb (get_or text e 0) 44 || eqb (get_or text e 0) 58) a e rest s (parting_within text e) r

  mutual
    unfolding sequence_of group_of

    pub sequence_fine : (calls left i : ℕ) → i ≤ length text → Fine n text i (sequence_of n text calls left i)
    sequence_fine zero left i h = tt
    sequence_fine (suc calls) left i h =
        first_word group_signs text i h
        (λ z. subst (Fine n text i) (sym (calls_none n text calls left i z)) (record { from = h; within = omega arith; good = good_none n }))
        (λ s e f. subst (Fine n text i) (sym (calls_word n text calls left i f))
        (fine_word (sort_of (get_or text s 0)) left (λ s. group_of n text calls (left - 1) s) (λ e. sequence_of n text calls left e) f
        (group_fine calls (left - 1) s (omega (arith, f.some, f.within))) (λ d l. sequence_fine calls left d l)))

    pub group_fine : (calls left s : ℕ) → s < length text → Fine n text (s + 1) (group_of n text calls left s)
    group_fine zero left s h = tt
    group_fine (suc calls) left s h =
        fine_then (s + 1) (s + 1) (sequence_of n text calls left (s + 1)) (λ a e. group_then (eqb (get_or text s 0) 40) text a e (λ i. sequence_of n text calls left i))
        (sequence_fine calls left (s + 1) (omega arith))
        (λ a e q. fine_group (eqb (get_or text s 0) 40) a e (λ i. sequence_of n text calls left i) q (λ d l. sequence_fine calls left d l))

-- ---- calls enough are enough

module _ (n : ℕ) (text : List ℕ) where
  same_then : (mid : ℕ) (o o' : Outcome) (next next' : Alg → ℕ → Outcome) → o ≡ o' → Fine n text mid o
      → ((a : Alg) (e : ℕ) → Sound n text mid a e → next a e ≡ next' a e) → and_then o next ≡ and_then o' next'
  same_then mid (means a e) o' next next' q s f = f a e s ∙ ap (λ (x : Outcome). and_then x next') q
  same_then mid (wrong k p) o' next next' q s f = ap (λ (x : Outcome). and_then x next') q

  same_word : {i s e : ℕ} (sort : Sort) (left : ℕ) (group group' rest rest' : ℕ → Outcome) → Found group_signs text i s e → group s ≡ group' s
      → Fine n text (s + 1) (group s) → ((d : ℕ) → s < d → d ≤ length text → rest d ≡ rest' d)
      → word_then sort n left (word_of text s e) group rest ≡ word_then sort n left (word_of text s e) group' rest'
  same_word opening zero group group' rest rest' f q g r = refl
  same_word {i} {s} opening (suc left) group group' rest rest' f q g r =
      same_then (s + 1) (group s) (group' s) (λ a e. front a (rest e)) (λ a e. front a (rest' e)) q g
      (λ a e t. ap (front a) (r e (omega (arith, t.from)) t.within))
  same_word other left group group' rest rest' f q g r = refl
  same_word {i} {s} {e} token left group group' rest rest' f q g r =
      ap (token_then (read_token n (take (e - s) (drop s text))) s)
      (r (s + length (take (e - s) (drop s text))) (omega (arith, word_ends f, f.some)) (omega (arith, word_ends f, f.within)))

  same_second : (t : Bool) (a : Alg) (e : ℕ) (rest rest' : ℕ → Outcome) → (t ≡ true → e < length text)
      → ((d : ℕ) → e < d → d ≤ length text → rest d ≡ rest' d) → second_then t text a e rest ≡ second_then t text a e rest'
  same_second true a e rest rest' h r =
      ap (λ (o : Outcome). and_then o (λ b d. square_end text (paired (get_or text e 0) a b) d)) (r (e + 1) (omega arith) (omega (arith, h refl)))
  same_second false a e rest rest' h r = refl

  same_group : (t : Bool) (a : Alg) (e : ℕ) (rest rest' : ℕ → Outcome)
      → ((d : ℕ) → e < d → d ≤ length text → rest d ≡ rest' d) → group_then t text a e rest ≡ group_then t text a e rest'
  same_group true a e rest rest' r = refl
  same_group false a e rest rest' r =
      same_second (eqb (get_or text e 0) 44 || eqb (get_or text e 0) 58) a e rest rest' (parting_within text e) r

  mutual
    unfolding group_of

    pub more_calls : (calls calls' left i : ℕ) → i ≤ length text → sequence_calls text i ≤ calls → sequence_calls text i ≤ calls'
        → sequence_of n text calls left i ≡ sequence_of n text calls' left i
    more_calls zero calls' left i h l m = absurd (omega arith)
    more_calls (suc calls) zero left i h l m = absurd (omega arith)
    more_calls (suc calls) (suc calls') left i h l m =
        first_word group_signs text i h
        (λ z. calls_none n text calls left i z ∙ sym (calls_none n text calls' left i z))
        (λ s e f.
        let w = f.from in
        let v = f.some in
        let u = f.within in
        calls_word n text calls left i f
        ∙ same_word (sort_of (get_or text s 0)) left (λ s. group_of n text calls (left - 1) s) (λ s. group_of n text calls' (left - 1) s)
        (λ e. sequence_of n text calls left e) (λ e. sequence_of n text calls' left e) f
        (more_group calls calls' (left - 1) s (omega arith) (omega arith) (omega arith))
        (group_fine n text calls (left - 1) s (omega arith))
        (λ d x y. more_calls calls calls' left d y (omega arith) (omega arith))
        ∙ sym (calls_word n text calls' left i f))

    pub more_group : (calls calls' left s : ℕ) → s < length text → group_calls text s ≤ calls → group_calls text s ≤ calls'
        → group_of n text calls left s ≡ group_of n text calls' left s
    more_group zero calls' left s h l m = absurd (omega arith)
    more_group (suc calls) zero left s h l m = absurd (omega arith)
    more_group (suc calls) (suc calls') left s h l m =
        same_then (s + 1) (sequence_of n text calls left (s + 1)) (sequence_of n text calls' left (s + 1))
        (λ a e. group_then (eqb (get_or text s 0) 40) text a e (λ i. sequence_of n text calls left i))
        (λ a e. group_then (eqb (get_or text s 0) 40) text a e (λ i. sequence_of n text calls' left i))
        (more_calls calls calls' left (s + 1) (omega arith) (omega arith) (omega arith))
        (sequence_fine n text calls left (s + 1) (omega arith))
        (λ a e q. same_group (eqb (get_or text s 0) 40) a e (λ i. sequence_of n text calls left i) (λ i. sequence_of n text calls' left i)
        (λ d x y. more_calls calls calls' left d y (omega (arith, q.from)) (omega (arith, q.from))))

-- ---- so the readers go on by themselves

module _ (n : ℕ) (text : List ℕ) (left : ℕ) where
  pub at_none : (i : ℕ) → words_from group_signs text i ≡ [] → sequence_at n text left i ≡ means nothing (length text)
  unfolding sequence_at
  at_none i z = rw (add-one (2 * (length text - i))) (calls_none n text (2 * (length text - i)) left i z)

  pub at_word : {i s e : ℕ} → Found group_signs text i s e
      → sequence_at n text left i ≡ word_then (sort_of (get_or text s 0)) n left (word_of text s e) (group_at n text (left - 1)) (sequence_at n text left)
  unfolding sequence_at group_at
  at_word {i} {s} {e} f =
      let k = 2 * (length text - i) in
      let w = f.from in
      let v = f.some in
      let u = f.within in
      ap (λ (c : ℕ). sequence_of n text c left i) (add-one k) ∙ calls_word n text k left i f
      ∙ same_word n text (sort_of (get_or text s 0)) left (λ s. group_of n text k (left - 1) s) (group_at n text (left - 1))
      (λ e. sequence_of n text k left e) (sequence_at n text left) f
      (more_group n text k (group_calls text s) (left - 1) s (omega arith) (omega arith) (omega arith))
      (group_fine n text k (left - 1) s (omega arith))
      (λ d x y. more_calls n text k (sequence_calls text d) left d y (omega arith) (omega arith))

  pub at_group : (s : ℕ) → s < length text → group_at n text left s
      ≡ and_then (sequence_at n text left (s + 1)) (λ a e. group_then (eqb (get_or text s 0) 40) text a e (sequence_at n text left))
  unfolding group_at sequence_at group_of
  at_group s h =
      let k = 2 * (length text - s) - 1 in
      let z : group_calls text s ≡ suc k = omega arith in
      ap (λ (c : ℕ). group_of n text c left s) z
      ∙ same_then n text (s + 1) (sequence_of n text k left (s + 1)) (sequence_at n text left (s + 1))
      (λ a e. group_then (eqb (get_or text s 0) 40) text a e (λ i. sequence_of n text k left i))
      (λ a e. group_then (eqb (get_or text s 0) 40) text a e (sequence_at n text left))
      (more_calls n text k (sequence_calls text (s + 1)) left (s + 1) (omega arith) (omega arith) (omega arith))
      (sequence_fine n text k left (s + 1) (omega arith))
      (λ a e q. same_group n text (eqb (get_or text s 0) 40) a e (λ i. sequence_of n text k left i) (sequence_at n text left)
      (λ d x y. more_calls n text k (sequence_calls text d) left d y (omega (arith, q.from)) (omega arith)))

  pub at_fine : (i : ℕ) → i ≤ length text → Fine n text i (sequence_at n text left i)
  unfolding sequence_at
  at_fine i h = sequence_fine n text (sequence_calls text i) left i h

  pub group_at_fine : (s : ℕ) → s < length text → Fine n text (s + 1) (group_at n text left s)
  unfolding group_at
  group_at_fine s h = group_fine n text (group_calls text s) left s h
