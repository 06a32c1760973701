-- What a table is to hold: exactly the states reachable from a starting cube by at most `depth` candidates, each with the least such
-- count.
use Rattle.std.specs.Prelude.{ℕ, zero, suc, ◌≤◌, ◌<◌, ◌≡◌}
use mathlib.Core.List.{List, Memᴰ}
use Rattle.table.specs.Entries.{Present}

module _ (moved : ℕ → List ℕ → List ℕ) (candidates : List ℕ) (Start : List ℕ → Type 0) where
  -- one candidate leads from such a state to s
  pub record OneMove (From : List ℕ → Type 0) (s : List ℕ) : Type 0 where
    pub state : List ℕ
    pub move : ℕ
    pub from : From state
    pub candidate : Memᴰ move candidates
    pub leads : s ≡ moved move state

  -- exactly n candidates lead from a start to s
  abbrev pub ReachIn : ℕ → List ℕ → Type 0
  ReachIn zero s = Start s
  ReachIn (suc n) s = OneMove (ReachIn n) s

  -- and no fewer do
  pub record Least (n : ℕ) (s : List ℕ) : Type 0 where
    pub reached : ReachIn n s
    pub least : (j : ℕ) → j < n → ReachIn j s → ⊥

  -- n keys and numbers, exact to a depth: each is right, none is above it, and each state reached by at most so many candidates is there
  pub record Exact (depth : ℕ) (key : ℕ → List ℕ) (number : ℕ → ℕ) (n : ℕ) : Type 0 where
    pub shallow : (i : ℕ) → i < n → number i ≤ depth
    pub right : (i : ℕ) → i < n → Least (number i) (key i)
    pub whole : (j : ℕ) (s : List ℕ) → j ≤ depth → ReachIn j s → Present key n s
