-- The answer for the whole text, from what its sequence was told to be.
use Prim.Native.Nat.{ℕ, ◌+◌, ◌≤◌, ◌<◌}
use mathlib.Core.Path.{◌≡◌, sym, ap, subst, ◌∙◌}
use mathlib.Core.Bool.{true, false}
use mathlib.Core.List.{List, []}
use native.Mathlib.Omega.{arith}
use lib.ListN.{length}
use lib.Dec.{eqb}
use Rattle.std.specs.Prelude.{Ok, Err}
use borrow.Author.Tests.{eq-eqb, ne_eqb}
use Rattle.generic_cube.specs.Sizes.{sized}
use Rattle.scramble_parser.specs.declared.ParseError.TheVariants.{At}
use Rattle.scramble_parser.specs.Parse.{codes, bad, text_refused}
use Rattle.scramble_parser.proofs.ParseLaws.{read_bad, read_short, read_good}
use Rattle.algorithm_parser.specs.Algorithm.{Alg, expand}
use Rattle.algorithm_parser.specs.Groups.{Outcome, means, whole, expanded, sequence_at, read_algorithm, algorithm_reading, AlgorithmResult}
use Rattle.algorithm_parser.specs.Inner.{Filled, Told, Written}
use Rattle.tokens.specs.declared.Fault.{Fault}
use Rattle.tokens.specs.Token.{fault}
use Rattle.algorithm_parser.specs.declared.Read.{Read}
use Rattle.algorithm_parser.proofs.ReaderLaws.{at_fine}
use Rattle.algorithm_parser.proofs.CycleLaws.{told_read, told_bad, fine_means}

-- what is put into no output
module _ (n : ℕ) (text out : List ℕ) (s : sized n ≡ true) where
  pub answer_bad : (f : Fault) → Told (length out + 1) [] 0 (sequence_at n text 8 0) [] (Err f) → AlgorithmResult n text out out (Err (At f))
  unfolding read_algorithm
  answer_bad f t =
      let w = told_bad (length out + 1) [] 0 (sequence_at n text 8 0) [] t in
      subst (λ (x : Fault). AlgorithmResult n text out out (Err (At x))) (sym w.3)
      (read_bad n (algorithm_reading n text) out s (ap (λ (o : Outcome). expanded (whole text o)) w.2))

  module _ (r : Read) (t : Told (length out + 1) [] 0 (sequence_at n text 8 0) [] (Ok r)) where
    found : (a : Alg) × (sequence_at n text 8 0 ≡ means a r.end) × Filled (length out + 1) [] 0 (expand a) [] r.next
    found = told_read (length out + 1) [] 0 (sequence_at n text 8 0) [] t

    pub answer_sign : r.end < length text → AlgorithmResult n text out out (Err (At (fault 16 r.end)))
    unfolding read_algorithm
    answer_sign h =
        let w = found in
        let z : eqb r.end (length text) ≡ false = ne_eqb r.end (length text) (omega arith) in
        let b : algorithm_reading n text ≡ bad 16 r.end = ap (λ (o : Outcome). expanded (whole text o)) w.1 ∙ rw z in
        read_bad n (algorithm_reading n text) out s b

    module _ (h : length text ≤ r.end) where
      reads : algorithm_reading n text ≡ codes (expand found.0)
      unfolding read_algorithm
      reads =
          let w = found in
          let f = fine_means n text 0 w.1 (at_fine n text 8 0 (omega arith)) in
          let z : eqb r.end (length text) ≡ true = eq-eqb r.end (length text) (omega (arith, f.within)) in
          ap (λ (o : Outcome). expanded (whole text o)) w.1 ∙ rw z

      pub answer_short : length out < r.next → AlgorithmResult n text out out (text_refused 6)
      answer_short l = read_short n (algorithm_reading n text) out s reads (omega (arith, found.2.next))

      pub answer_good : {new : List ℕ} → r.next ≤ length out → Written (sequence_at n text 8 0) out new → AlgorithmResult n text out new (Ok r.next)
      answer_good {new} l v =
          let w = found in
          let c : r.next ≡ length (expand w.0) = omega (arith, w.2.next) in
          let y : Written (means w.0 r.end) out new = subst (λ (o : Outcome). Written o out new) w.1 v in
          read_good n (algorithm_reading n text) out s reads (omega arith) c (y (omega arith))
