-- Reading what the writer wrote gives the same list.
use Prim.Native.Nat.{ℕ, ◌+◌, ◌-◌, ◌≤◌}
use mathlib.Core.Path.{◌≡◌, refl, ap, ◌∙◌}
use mathlib.Core.Bool.{true, false}
use mathlib.Core.List.{List, [], ◌∷◌, ◌++◌}
use lib.ListN.{length, take, drop}
use lib.Seq.{take-append_seam}
use lib.Dec.{ltb}
use borrow.Author.Tests.{le-ltb}
use Rattle.std.specs.Prelude.{Result, Ok}
use Rattle.tokens.specs.declared.Fault.{Fault}
use Rattle.generic_cube.proofs.AnswerLaws.{ok_number}
use Rattle.ground.specs.Choice.{any}
use Rattle.ground.specs.Lists.{each}
use Rattle.ground.specs.Refusals.{◌when◌, lowest}
use Rattle.ground.proofs.RefusalLaws.{passed, lowest_behind}
use Rattle.generic_cube.specs.Code.{rows_in, refusal_in}
use Rattle.generic_cube.proofs.CodeLaws.{sized_bounds, Good, AllGood, taken_good}
use Rattle.tokens.specs.Words.{is_space, ends_word, word_bytes, words}
use Rattle.tokens.proofs.WordLaws.{words_word}
use Rattle.scramble_writer.specs.Write.{text_of, rest_text, list_text, write_refusal}
use Rattle.scramble_writer.proofs.WriteLaws.{write_fits}
use Rattle.scramble_parser.specs.Parse.{codes, ahead, reading, read_answer, read_out}
use Rattle.theorems.specs.Notation.{RoundTrips, ReadsBack, ExactRoom}
use Rattle.theorems.proofs.GrammarLaws.{accepts}
use Rattle.theorems.proofs.WriterLaws.{text_spelled, shaped_some, shaped_word}

-- a word in front of a space or of the end
text_word : (at : ℕ) (t rest : List ℕ) → (length t ≡ 0 → ⊥) → any (ends_word []) t ≡ false → word_bytes [] rest ≡ []
    → words [] at false (t ++ rest) ≡ record { start = at; bytes = t } ∷ words [] (at + length t) true rest
text_word at [] rest z a e = absurd (z refl)
text_word at (b ∷ t) rest z a e = words_word [] at b t rest a e

-- what follows a token ends it
rest_ends : (cs : List ℕ) → word_bytes [] (rest_text cs) ≡ []
unfolding rest_text each word_bytes ends_word is_space
rest_ends [] = refl
rest_ends (c ∷ cs) = refl

-- a token in front of the others
front_reads : (n at c : ℕ) (cs : List ℕ) → n ≤ 104 → Good 2 (n - 1) c
    → reading n (words [] (at + length (text_of c)) true (rest_text cs)) ≡ codes cs → reading n (words [] at false (text_of c ++ rest_text cs)) ≡ codes (c ∷ cs)
unfolding reading
front_reads n at c cs h g e =
    let s = text_spelled n c h g in
    ap (reading n) (text_word at (text_of c) (rest_text cs) (shaped_some s.shape) (shaped_word s.shape) (rest_ends cs))
    ∙ ap (λ (t : Result ℕ Fault). ahead t at (reading n (words [] (at + length (text_of c)) true (rest_text cs)))) (accepts n (text_of c) c s)
    ∙ ap (ahead (Ok c) at) e

rest_reads : (n at : ℕ) (cs : List ℕ) → n ≤ 104 → AllGood 2 (n - 1) cs → reading n (words [] at true (rest_text cs)) ≡ codes cs
unfolding rest_text each words is_space reading AllGood
rest_reads n at [] h g = refl
rest_reads n at (c ∷ cs) h g =
    front_reads n (at + 1) c cs h g.0 (rest_reads n (at + 1 + length (text_of c)) cs h g.1)

text_reads : (n : ℕ) (cs : List ℕ) → n ≤ 104 → AllGood 2 (n - 1) cs → reading n (words [] 0 false (list_text cs)) ≡ codes cs
unfolding list_text words reading AllGood
text_reads n [] h g = refl
text_reads n (c ∷ cs) h g = front_reads n 0 c cs h g.0 (rest_reads n (0 + length (text_of c)) cs h g.1)

pub round_trips : RoundTrips
round_trips n cs s e = text_reads n cs (sized_bounds n s).1 (taken_good 2 (n - 1) cs e)

pub reads_back : ReadsBack
unfolding read_answer read_out
reads_back n k cs text text' out out' r w p h =
    let z = ok_number (write_refusal n cs (length text)) (length (list_text cs)) w.answered in
    let f = write_fits n cs (length text) z.0 in
    let whole : take k text' ≡ list_text cs = rw (w.left, z.0, z.1) (take-append_seam (list_text cs) (drop (length (list_text cs)) text)) in
    let b = round_trips n cs f.size f.list in
    let l = le-ltb (length out) (length cs) h in
    record { answered = p.answered ∙ rw (whole, f.size, b, l); left = p.written ∙ rw (whole, f.size, b, l) }

pub exact_room : ExactRoom
unfolding write_refusal refusal_in lowest
exact_room n cs room s e =
    rw s (lowest_behind (rows_in 2 (n - 1) cs) (6 when ltb room (length (list_text cs)) ∷ []) (passed (rows_in 2 (n - 1) cs) refl e))
