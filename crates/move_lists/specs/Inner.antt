-- Inner contracts: the stack in which a list is simplified, the first k of `out`.
use Rattle.std.specs.Prelude.{ℕ, ◌+◌, ◌<◌, ◌≤◌, ◌≡◌, List, ◌∷◌, ◌++◌, length, take, drop}
use Rattle.generic_cube.specs.Code.{move_of}
use Rattle.move_lists.specs.Lists.{simplify, Reduced, Turned}

-- what a push of a code on it asks
pub record Pushable (out : List ℕ) (k c : ℕ) : Type 0 where
  pub room : k < length out
  pub reduced : Reduced (take k out)
  pub turned : Turned (take k out)
  pub some : 0 < (move_of c).turn

-- the code was pushed on it
pub record Pushed (out : List ℕ) (k c : ℕ) (new : List ℕ) (r : ℕ) : Type 0 where
  pub within : r ≤ k + 1
  pub reduced : Reduced (take r new)
  pub turned : Turned (take r new)
  pub same : (rest : List ℕ) → Turned rest → simplify (take r new ++ rest) ≡ simplify (take k out ++ c ∷ rest)
  pub kept : drop (k + 1) new ≡ drop (k + 1) out

-- all of the list was
pub record Shrunk (list out new : List ℕ) (r : ℕ) : Type 0 where
  pub top : take r new ≡ simplify list
  pub most : r ≤ length list
  pub kept : drop (length list) new ≡ drop (length list) out
