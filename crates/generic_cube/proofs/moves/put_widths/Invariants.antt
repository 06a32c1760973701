-- `put_widths`: the first i widths are stored.
use mathlib.Core.List.{[], ◌∷◌}
use Rattle.ground.specs.Lists.{up_from}
use Rattle.ground.proofs.PutLaws.{Looped}
use Rattle.generic_cube.specs.Code.{move, code_of}
use Rattle.generic_cube.proofs.moves.put_widths.Given as goal

abbrev pub invariant-loop-i : goal.invariant-loop-i
invariant-loop-i l =
    Looped l.initial.out l.start (up_from l.first l.count) (λ w. code_of (move l.kind w l.turn) ∷ []) l.i l.out l.at
