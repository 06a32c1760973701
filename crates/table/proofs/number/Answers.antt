-- `number`: what a lookup that fails gives.
use Prim.Native.Nat.{ℕ, ◌+◌}
use mathlib.Core.Path.{◌≡◌, ◌∙◌}
use Rattle.std.specs.Prelude.{Option, Some, None, MatchOption}
use Rattle.std.specs.Option.{unwrap_or}
use Rattle.table.specs.Table.{state_number}
use Rattle.table.proofs.number.Goals as goal

-- the number that was found, or the default
given : (o : Option ℕ) (d : ℕ) {r n : ℕ} → MatchOption o (r ≡ d) (λ x. r ≡ x) → unwrap_or o d ≡ n → r ≡ n
given None d h g = h ∙ g
given (Some x) d h g = h ∙ g

pub returns : goal.returns
unfolding state_number
returns c = given c.find.result _ c.map_or.ensures (c.find.ensures (c.args.depth + 1))
