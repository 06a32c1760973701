-- What an algorithm is, and the moves that it stands for.
use Rattle.std.specs.Prelude.{ℕ, zero, suc, List, [], ◌∷◌, ◌++◌}
use Rattle.move_lists.specs.Lists.{inverse}

-- a sequence is nothing, a move, or one thing and then another; a group is a repeat (A)k, a commutator [A, B] or a conjugate [A: B]
pub data Alg : Type 0 where
  nothing : Alg
  move : ℕ → Alg
  both : Alg → Alg → Alg
  repeated : ℕ → Alg → Alg
  commutator : Alg → Alg → Alg
  conjugate : Alg → Alg → Alg

-- a list k times
unfoldable pub copies : ℕ → List ℕ → List ℕ
copies zero cs = []
copies (suc k) cs = cs ++ copies k cs

-- the expansion: [A, B] is A, B, A inverted, B inverted; [A: B] is A, B, A inverted
unfoldable pub expand : Alg → List ℕ
expand nothing = []
expand (move c) = c ∷ []
expand (both a b) = expand a ++ expand b
expand (repeated k a) = copies k (expand a)
expand (commutator a b) = (expand a ++ expand b) ++ (inverse (expand a) ++ inverse (expand b))
expand (conjugate a b) = (expand a ++ expand b) ++ inverse (expand a)
