-- `invert_into`: the first j codes of the inverse are stored.
use mathlib.Core.List.{[], ◌∷◌}
use Rattle.ground.proofs.PutLaws.{Looped}
use Rattle.move_lists.specs.Lists.{inverse}
use Rattle.move_lists.proofs.invert_into.Given as goal

abbrev pub invariant-loop-j : goal.invariant-loop-j
invariant-loop-j l = Looped l.initial.out 0 (inverse l.list) (λ c. c ∷ []) l.j l.out l.j
