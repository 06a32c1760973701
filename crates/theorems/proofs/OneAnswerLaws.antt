-- Each contract's equations, laid side by side.
use Prim.Native.Nat.{ℕ}
use mathlib.Core.Path.{◌≡◌, ap, sym, ◌∙◌}
use mathlib.Core.List.{List}
use Rattle.cubesim.specs.Pack.{pack, Packed}
use Rattle.theorems.specs.OneAnswer.{OneAnswer}

-- answers that equal one definition are packed into one number
packed_one : {A : Type 0} {number value : A → ℕ} {P Q : A → Type 0} {a : A} {r s : ℕ} (p : Packed number value P r) (q : Packed number value Q s)
    → p.answer ≡ a → q.answer ≡ a → r ≡ s
packed_one {number = number} {value = value} p q e d = p.packed ∙ ap (λ a. pack (number a) (value a)) (e ∙ sym d) ∙ sym q.packed

slice_one : {a b c : List ℕ} → a ≡ c → b ≡ c → a ≡ b
slice_one e d = e ∙ sym d

pub one_answer : OneAnswer
one_answer = record {
  solved = λ n cube r s a b p q. (packed_one p q p.result.answered q.result.answered, slice_one p.result.left q.result.left);
  solved_ids_lem = λ n ids r s a b p q. (packed_one p q p.result.answered q.result.answered, slice_one p.result.left q.result.left);
  is_solved_lem = λ n cube r s p q. packed_one p q p.result q.result;
  sticker_index_lem = λ n face i r s p q. packed_one p q p.result q.result;
  mask = λ n cube ids keep r s a b p q. (packed_one p q p.result.answered q.result.answered, slice_one p.result.left q.result.left);
  apply_moves = λ n cube work moves r s a b x y p q. (packed_one p q p.result.answered q.result.answered, slice_one p.result.cube_is q.result.cube_is, slice_one p.result.work_is q.result.work_is);
  all_moves_lem = λ n out r s a b p q. (packed_one p q p.result.answered q.result.answered, slice_one p.result.left q.result.left);
  parse_scramble = λ n text out r s a b p q. (packed_one p q p.result.answered q.result.answered, slice_one p.result.written q.result.written);
  parse_algorithm = λ n text out r s a b p q. (packed_one p q p.result.answered q.result.answered, slice_one p.result.written q.result.written);
  write_scramble = λ n moves out r s a b p q. (packed_one p q p.result.answered q.result.answered, slice_one p.result.left q.result.left);
  simplify_moves = λ n moves out r s a b p q. (packed_one p q p.result.answered q.result.answered, slice_one p.result.left q.result.left);
  invert_moves = λ n moves out r s a b p q. (packed_one p q p.result.answered q.result.answered, slice_one p.result.left q.result.left);
  pruning_table = λ n starts moves depth table r s a b p q. (packed_one p q p.result.answered q.result.answered, slice_one p.result.left q.result.left);
  ida_star = λ q work out r s a b x y u v. (packed_one u v u.result.answered v.result.answered, slice_one u.result.zeroed v.result.zeroed, slice_one u.result.written v.result.written);
}
