-- Inner contracts: what the functions that copy a slice or write a list into one tell of it.
use Rattle.std.specs.Prelude.{ℕ, ◌+◌, ◌≡◌, List, length, take, drop}
use Rattle.std.proofs.lemmas.List.Edits.{sets}

-- two lists of one length, the first j elements of which are the same
pub record Copying (s l : List ℕ) (j : ℕ) : Type 0 where
  pub long : length l ≡ length s
  pub done : take j l ≡ take j s

-- two halves of s elements, of which the first is that of `old`, and the first j elements of the second are the same
pub record Doubling (s : ℕ) (old l : List ℕ) (j : ℕ) : Type 0 where
  pub long : length l ≡ s + s
  pub front : take s l ≡ take s old
  pub copied : Copying (take s l) (drop s l) j

-- `new` is `out` with the list vs stored from j on, and r is the place behind it
pub record Put (out : List ℕ) (j : ℕ) (vs new : List ℕ) (r : ℕ) : Type 0 where
  pub next : r ≡ j + length vs
  pub stored : new ≡ sets out j vs
