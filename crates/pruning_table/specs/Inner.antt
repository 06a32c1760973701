-- Inner contracts of the builder: what building comes to.
use Rattle.std.specs.Prelude.{ℕ, Option, Some, None, List}
use Rattle.table_theory.specs.Exact.{Exactly}
use Rattle.table_climb.specs.Inner.{Outnumbered}

-- the table is there and meets the rule, or the states outnumber the entries that fit
abbrev pub Finished : ℕ → List ℕ → List ℕ → ℕ → List ℕ → List ℕ → Option ℕ → Type 0
Finished n starts moves depth t t' (Some c) = Exactly n starts moves depth t t' c
Finished n starts moves depth t t' None = Outnumbered n starts moves depth t
