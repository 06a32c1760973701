-- `put_turns`: the first i turns are stored.
use mathlib.Core.List.{[], ◌∷◌}
use Rattle.ground.specs.Lists.{up_from}
use Rattle.generic_cube.specs.AllMoves.{widths_of}
use Rattle.ground.proofs.PutLaws.{Looped}
use Rattle.generic_cube.proofs.moves.put_turns.Given as goal

abbrev pub invariant-loop-i : goal.invariant-loop-i
invariant-loop-i l =
    Looped l.initial.out l.start (1 ∷ 2 ∷ 3 ∷ []) (widths_of (up_from l.first l.count) l.kind) l.i l.out l.at
