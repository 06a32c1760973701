-- Laws of the response as it is put together: text and numbers at the front of the output, the cube, and the scramble.
use Prim.Native.Nat.{ℕ, suc, ◌+◌, ◌-◌, ◌*◌, ◌≤◌, ◌<◌}
use mathlib.Core.Path.{◌≡◌, refl, sym, ap, subst, ◌∙◌}
use mathlib.Core.Bool.{true, false}
use mathlib.Core.List.{List, ◌∷◌, ◌++◌}
use native.Mathlib.Omega.{arith}
use native.Mathlib.Numerals.{add-one}
use native.Mathlib.Nat.{zero-add, mul-le-mul}
use lib.Dec.{ltb}
use lib.ListN.{length, get_or, take, drop, set, length-append, length-drop}
use lib.Seq.{sets-eq, take_at, drop-cons, set-append_seam, append_snoc}
use borrow.Author.Tests.{le-ltb}
use Rattle.ground.proofs.ChoiceLaws.{bool_cases}
use Rattle.ground.specs.Inner.{Put}
use Rattle.ground.proofs.PutLaws.{put_then}
use Rattle.std.specs.Prelude.{Result, Ok, Err}
use Rattle.ground.specs.declared.refusals.Refusal.{Refusal}
use Rattle.ground.specs.Refusals.{refusal_no, refusal}
use Rattle.generic_cube.specs.Sizes.{sized, stickers}
use Rattle.generic_cube.specs.Answers.{DoneWith}
use Rattle.generic_cube.specs.Code.{list_refusal}
use Rattle.generic_cube.proofs.CodeLaws.{bounds_sized}
use Rattle.tokens.specs.Words.{tokens_of}
use Rattle.tokens.specs.declared.Fault.{Fault}
use Rattle.scramble_parser.specs.declared.ParseError.{ParseError}
use Rattle.scramble_parser.specs.declared.ParseError.TheVariants.{Refused, At}
use Rattle.tokens.specs.Token.{fault}
use Rattle.scramble_parser.specs.Parse.{Reading, codes, bad, reading, answer_of, filled_by, read_answer, read_out, ParseResult}
use Rattle.scramble_parser.proofs.ParseLaws.{reading_taken, reading_few, reading_listed}
use Rattle.geometric_moves.specs.Turn.{run}
use Rattle.facelet_cube.specs.Apply.{ApplyMovesResult}
use Rattle.facelet_cube.specs.Inner.{Runnable}
use Rattle.facelet_cube.proofs.ApplyLaws.{runnable_applies}
use Rattle.facelet_cube.specs.Cube.{cube_refusal, solved_cube}
use Rattle.facelet_cube.proofs.CubeLaws.{whole_cube}
use Rattle.cube_response.specs.Program.{decimal, feed, refused_text, at_text, Responds}
use Rattle.cube_response.specs.Inner.{PutNumber, SizeAndRoom}

-- ---- text

-- a whole text at the front
pub put_front : {out text new : List ℕ} {r : ℕ} → Put out 0 text new r → length text ≤ length out → Responds text out new r
put_front {out} {text} {new} {r} p h =
    record {
      count = p.next ∙ zero-add (length text);
      room = h;
      written = p.stored ∙ sets-eq text out 0 (omega arith) ∙ ap (λ (k : ℕ). text ++ drop k out) (zero-add (length text));
    }

-- a response to the same
pub responds : {text text' out new : List ℕ} {r : ℕ} → text' ≡ text → Responds text out new r → Responds text' out new r
responds {out = out} {new = new} {r = r} e p = subst (λ (t : List ℕ). Responds t out new r) (sym e) p

pub put_number : {out text new : List ℕ} {at x r : ℕ} → Put out at text new r → text ≡ decimal x → length text ≤ 20 → PutNumber out at x new r
put_number {out} {text} {new} {at} {x} {r} p e h =
    record { digits = subst (λ (t : List ℕ). Put out at t new r) e p; few = subst (λ (t : List ℕ). length t ≤ 20) e h }

-- a refusal's parts, one after the other
pub put_parts : {out o1 o2 o3 o4 new : List ℕ} {k p a b c d r : ℕ} → 53 ≤ length out → Put out 0 refused_text o1 a → PutNumber o1 a k o2 b
    → Put o2 b at_text o3 c → PutNumber o3 c p o4 d → Put o4 d feed new r
    → Responds (refused_text ++ (decimal k ++ (at_text ++ (decimal p ++ feed)))) out new r
put_parts {k = k} {p = p} h x1 x2 x3 x4 x5 =
    let f = x2.few in
    let g = x4.few in
    put_front (put_then x1 (put_then x2.digits (put_then x3 (put_then x4.digits x5))))
    (simp length-append (omega arith))

-- ---- the cube

pub twenty : {n : ℕ} → n ≤ 20 → stickers n ≤ 2400
twenty {n} h = mul-le-mul {n₁ = 6 * n} {m₁ = n} {n₂ = 120} {m₂ = 20} (omega arith) h

-- a solved cube, turned
pub turned_solved : {n : ℕ} {moves cube cube1 cube2 work work2 : List ℕ} {r s : Result (Unit {0}) Refusal} → Runnable n (length cube) (length work) moves
    → DoneWith (cube_refusal n (length cube)) (solved_cube n) cube cube1 r → length cube1 ≡ length cube
    → ApplyMovesResult n cube1 work moves cube2 work2 s → cube2 ≡ run n moves (solved_cube n)
turned_solved {n} {moves} {cube} {cube1} {cube2} {work} g d l a =
    let z = whole_cube (record { size = g.size; long_is = g.cube_long }) in
    let e : cube1 ≡ solved_cube n = d.left ∙ rw z in
    let y = runnable_applies (record { size = g.size; cube_long = l ∙ g.cube_long; work_long = g.work_long; list = g.list }) in
    a.cube_is ∙ rw y (ap (run n moves) e)

fed : (cube out : List ℕ) {count : ℕ} → length cube ≡ count → count < length out
    → Responds (cube ++ feed) out (set (cube ++ drop count out) count 10) (count + 1)
fed cube out {count} e h =
    let l : length (cube ++ feed) ≡ count + 1 = length-append cube feed ∙ omega arith in
    record {
      count = sym l;
      room = omega arith;
      written = ap (λ (t : List ℕ). set (cube ++ t) count 10) (drop-cons out count 0 h)
          ∙ ap (λ (k : ℕ). set (cube ++ get_or out count 0 ∷ drop (suc count) out) k 10) (sym e)
          ∙ set-append_seam cube (get_or out count 0) (drop (suc count) out) 10
          ∙ sym (append_snoc cube 10 (drop (suc count) out))
          ∙ ap (λ (k : ℕ). (cube ++ feed) ++ drop k out) (sym (l ∙ add-one count));
    }

-- a cube at the front, and a line feed behind it
pub cube_fed : {shown : List ℕ} (cube out : List ℕ) {count : ℕ} → cube ≡ shown → length cube ≡ count → count < length out
    → Responds (shown ++ feed) out (set (cube ++ drop count out) count 10) (count + 1)
cube_fed cube out {count} q e h =
    subst (λ (x : List ℕ). Responds (x ++ feed) out (set (cube ++ drop count out) count 10) (count + 1)) q (fed cube out e h)

-- ---- a scramble

-- as many moves as were counted, at the front of the slots: a list that is taken
pub record Read (n : ℕ) (two slots : List ℕ) (count : ℕ) : Type 0 where
  pub fits : count ≤ length slots
  pub is : reading n (tokens_of two) ≡ codes (take count slots)
  pub taken : list_refusal n (take count slots) ≡ 0

pub size_taken : {n room : ℕ} → SizeAndRoom n room → sized n ≡ true
size_taken {n} a = bounds_sized n a.some (omega (arith, a.most))

-- what a parser with room enough answers
module _ (n : ℕ) (two old new : List ℕ) (s : sized n ≡ true) (h : length two ≤ length old) where
  parsed_is : {r : Result ℕ ParseError} → ParseResult n two old new r → r ≡ answer_of (length old) (reading n (tokens_of two))
  unfolding read_answer
  parsed_is p = p.answered ∙ rw s

  filled_is : {r : Result ℕ ParseError} → ParseResult n two old new r → new ≡ filled_by old (reading n (tokens_of two))
  unfolding read_out
  filled_is p = p.written ∙ rw s

  moves_of_lem : (r : Reading) (count : ℕ) → reading n (tokens_of two) ≡ r → Ok count ≡ answer_of (length old) r → new ≡ filled_by old r → Read n two new count
  moves_of_lem (bad k at) count q e f = let z : ◌≡◌ {A = ℕ} 0 1 = cc in absurd (omega arith)
  moves_of_lem (codes cs) count q e f =
      let l = reading_few n two cs q in
      let v : ltb (length old) (length cs) ≡ false = le-ltb (length old) (length cs) (omega arith) in
      let d : ◌≡◌ {A = Result ℕ ParseError} (Ok count) (Ok (length cs)) = rw v at e in
      let m : length cs ≡ count = cc in
      let g : new ≡ cs ++ drop (length cs) old = rw v at f in
      let w : length new ≡ length cs + (length old - length cs) = ap length g ∙ length-append cs (drop (length cs) old) ∙ ap (λ (x : ℕ). length cs + x) (length-drop (length cs) old) in
      let t : take count new ≡ cs = ap (take count) g ∙ take_at cs (drop (length cs) old) count m in
      record { fits = omega arith; is = q ∙ ap codes (sym t); taken = ap (list_refusal n) t ∙ reading_taken n (tokens_of two) cs q }

  bad_reading : (r : Reading) (f : Fault) → reading n (tokens_of two) ≡ r → Err (At f) ≡ answer_of (length old) r → r ≡ bad (refusal_no f.refusal) f.place
  bad_reading (codes cs) f q e =
      bool_cases (ltb (length old) (length cs))
      (λ v. let d : ◌≡◌ {A = Result ℕ ParseError} (Err (At f)) (Err (Refused (refusal 6))) = rw v at e in let z : ◌≡◌ {A = ℕ} 0 1 = cc in absurd (omega arith))
      (λ v. let d : ◌≡◌ {A = Result ℕ ParseError} (Err (At f)) (Ok (length cs)) = rw v at e in let z : ◌≡◌ {A = ℕ} 0 1 = cc in absurd (omega arith))
  bad_reading (bad k at) f q e =
      let d : f ≡ fault k at = cc in
      ap (λ x. bad x at) (sym (reading_listed n (tokens_of two) k at q)) ∙ sym (ap (λ (x : Fault). bad (refusal_no x.refusal) x.place) d)

  none_of : (r : Reading) (k : Refusal) → reading n (tokens_of two) ≡ r → Err (Refused k) ≡ answer_of (length old) r → ⊥
  none_of (bad k' at) k q e = let z : ◌≡◌ {A = ℕ} 0 1 = cc in omega arith
  none_of (codes cs) k q e =
      let l = reading_few n two cs q in
      let v : ltb (length old) (length cs) ≡ false = le-ltb (length old) (length cs) (omega arith) in
      let d : ◌≡◌ {A = Result ℕ ParseError} (Err (Refused k)) (Ok (length cs)) = rw v at e in
      let z : ◌≡◌ {A = ℕ} 0 1 = cc in
      omega arith

  pub parsed_moves : {r : Result ℕ ParseError} {count : ℕ} → r ≡ Ok count → ParseResult n two old new r → Read n two new count
  parsed_moves {r} {count} q p = moves_of_lem (reading n (tokens_of two)) count refl (sym q ∙ parsed_is p) (filled_is p)

  pub parsed_bad : {r : Result ℕ ParseError} {f : Fault} → r ≡ Err (At f) → ParseResult n two old new r
      → reading n (tokens_of two) ≡ bad (refusal_no f.refusal) f.place
  parsed_bad {r} {f} q p = bad_reading (reading n (tokens_of two)) f refl (sym q ∙ parsed_is p)

  pub parsed_never : {r : Result ℕ ParseError} {k : Refusal} → r ≡ Err (Refused k) → ParseResult n two old new r → ⊥
  parsed_never {r} {k} q p = none_of (reading n (tokens_of two)) k refl (sym q ∙ parsed_is p)
