-- Each refusal that the readers give has a number of the rules' table.
use Prim.Native.Nat.{ℕ, zero, suc, ◌+◌, ◌-◌, ◌≤◌, ◌<◌}
use mathlib.Core.Path.{◌≡◌, refl, sym, ap, subst}
use mathlib.Core.Bool.{Bool, true, false, ◌||◌}
use mathlib.Core.List.{List}
use native.Mathlib.Omega.{arith}
use lib.Dec.{eqb}
use lib.ListN.{length, get_or, take, drop}
use Rattle.std.specs.Prelude.{Result, Ok, Err}
use Rattle.ground.specs.Choice.{pick, between}
use Rattle.ground.specs.Refusals.{refusal_no, refusal}
use Rattle.ground.proofs.RefusalLaws.{refusal_back}
use Rattle.tokens.specs.declared.Fault.{Fault}
use Rattle.tokens.specs.Inner.{Found}
use Rattle.tokens.specs.Token.{read_token}
use Rattle.tokens.specs.Words.{group_signs}
use Rattle.tokens.proofs.WordLaws.{first_word}
use Rattle.scramble_parser.specs.Parse.{bad}
use Rattle.algorithm_parser.specs.Algorithm.{Alg}
use Rattle.algorithm_parser.specs.Groups.{Outcome, means, wrong, and_then, front, Sort, opening, other, token, sort_of, token_then, word_then, round_end, square_end, paired, second_then, group_then, sequence_of, group_of, sequence_calls, group_calls, sequence_at, whole, read_algorithm, expanded, algorithm_reading}
use Rattle.algorithm_parser.proofs.ReaderLaws.{word_of, word_ends, calls_none, calls_word, Sound, Fine, parting_within, sequence_fine, group_fine}

abbrev pub Named : Outcome → Type 0
Named (means a e) = Unit {0}
Named (wrong k p) = refusal_no (refusal k) ≡ k

named_pick : (b : Bool) (o o' : Outcome) → Named o → Named o' → Named (pick b o o')
named_pick true o o' d d' = d
named_pick false o o' d d' = d'

named_front : (a : Alg) (o : Outcome) → Named o → Named (front a o)
named_front a (means b e) d = tt
named_front a (wrong k p) d = d

named_token : (t : Result ℕ Fault) (start : ℕ) (rest : Outcome) → Named rest → Named (token_then t start rest)
named_token (Ok c) start rest d = named_front _ rest d
named_token (Err f) start rest d = ap refusal_no (refusal_back f.refusal)

module _ (n : ℕ) (text : List ℕ) where
  named_then : (mid : ℕ) (o : Outcome) (next : Alg → ℕ → Outcome) → Fine n text mid o → Named o
      → ((a : Alg) (e : ℕ) → Sound n text mid a e → Named (next a e)) → Named (and_then o next)
  named_then mid (means a e) next s d f = f a e s
  named_then mid (wrong k p) next s d f = d

  named_word : {i s e : ℕ} (sort : Sort) (left : ℕ) (group rest : ℕ → Outcome) → Found group_signs text i s e
      → Fine n text (s + 1) (group s) → Named (group s) → ((d : ℕ) → s < d → d ≤ length text → Named (rest d))
      → Named (word_then sort n left (word_of text s e) group rest)
  named_word opening zero group rest f g d r = refl
  named_word {i} {s} opening (suc left) group rest f g d r =
      named_then (s + 1) (group s) (λ a e. front a (rest e)) g d (λ a e t. named_front a (rest e) (r e (omega (arith, t.from)) t.within))
  named_word other left group rest f g d r = tt
  named_word {i} {s} {e} token left group rest f g d r =
      named_token (read_token n (take (e - s) (drop s text))) s (rest (s + length (take (e - s) (drop s text))))
      (r (s + length (take (e - s) (drop s text))) (omega (arith, word_ends f, f.some)) (omega (arith, word_ends f, f.within)))

  named_round : (a : Alg) (e : ℕ) → Named (round_end text a e)
  unfolding round_end
  named_round a e = named_pick (eqb (get_or text e 0) 41) _ _ (named_pick (between 49 57 (get_or text (e + 1) 0)) _ _ tt tt) refl

  named_square : (a : Alg) (e : ℕ) → Named (square_end text a e)
  unfolding square_end
  named_square a e = named_pick (eqb (get_or text e 0) 93) _ _ tt refl

  named_second : (t : Bool) (a : Alg) (e : ℕ) (rest : ℕ → Outcome) → (t ≡ true → e < length text)
      → ((d : ℕ) → e < d → d ≤ length text → Fine n text d (rest d) × Named (rest d)) → Named (second_then t text a e rest)
  named_second true a e rest h r =
      let q = r (e + 1) (omega arith) (omega (arith, h refl)) in
      named_then (e + 1) (rest (e + 1)) (λ b d. square_end text (paired (get_or text e 0) a b) d) q.0 q.1 (λ b d s. named_square (paired (get_or text e 0) a b) d)
  named_second false a e rest h r = refl

  named_group : (t : Bool) (a : Alg) (e : ℕ) (rest : ℕ → Outcome)
      → ((d : ℕ) → e < d → d ≤ length text → Fine n text d (rest d) × Named (rest d)) → Named (group_then t text a e rest)
  named_group true a e rest r = named_round a e
  named_group false a e rest r =
      named_second (eqb (get_or text e 0) 44 || eqb (get_or text e 0) 58) a e rest (parting_within text e) r

  mutual
    unfolding group_of

    sequence_named : (calls left i : ℕ) → i ≤ length text → sequence_calls text i ≤ calls → Named (sequence_of n text calls left i)
    sequence_named zero left i h l = absurd (omega arith)
    sequence_named (suc calls) left i h l =
        first_word group_signs text i h
        (λ z. subst Named (sym (calls_none n text calls left i z)) tt)
        (λ s e f.
        let w = f.from in
        let v = f.some in
        let u = f.within in
        subst Named (sym (calls_word n text calls left i f))
        (named_word (sort_of (get_or text s 0)) left (λ s. group_of n text calls (left - 1) s) (λ e. sequence_of n text calls left e) f
        (group_fine n text calls (left - 1) s (omega arith)) (group_named calls (left - 1) s (omega arith) (omega arith))
        (λ d x y. sequence_named calls left d y (omega arith))))

    group_named : (calls left s : ℕ) → s < length text → group_calls text s ≤ calls → Named (group_of n text calls left s)
    group_named zero left s h l = absurd (omega arith)
    group_named (suc calls) left s h l =
        named_then (s + 1) (sequence_of n text calls left (s + 1)) (λ a e. group_then (eqb (get_or text s 0) 40) text a e (λ i. sequence_of n text calls left i))
        (sequence_fine n text calls left (s + 1) (omega arith)) (sequence_named calls left (s + 1) (omega arith) (omega arith))
        (λ a e q. named_group (eqb (get_or text s 0) 40) a e (λ i. sequence_of n text calls left i)
        (λ d x y. (sequence_fine n text calls left d y, sequence_named calls left d y (omega (arith, q.from)))))

  named_whole : (o : Outcome) → Named o → Named (whole text o)
  named_whole (means a e) d = named_pick (eqb e (length text)) _ _ tt refl
  named_whole (wrong k p) d = d

  named_algorithm : Named (read_algorithm n text)
  unfolding read_algorithm sequence_at
  named_algorithm = named_whole _ (sequence_named (sequence_calls text 0) 8 0 (omega arith) (omega arith))

  expanded_listed : (o : Outcome) → Named o → (k at : ℕ) → expanded o ≡ bad k at → refusal_no (refusal k) ≡ k
  expanded_listed (means a e) d k at q = let z : ◌≡◌ {A = ℕ} 0 1 = cc in absurd (omega arith)
  expanded_listed (wrong j p) d k at q = let z : j ≡ k = cc in subst (λ (x : ℕ). refusal_no (refusal x) ≡ x) z d

  pub algorithm_listed : (k at : ℕ) → algorithm_reading n text ≡ bad k at → refusal_no (refusal k) ≡ k
  algorithm_listed k at e = expanded_listed (read_algorithm n text) named_algorithm k at e
