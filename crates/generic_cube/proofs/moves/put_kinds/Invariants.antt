-- `put_kinds`: the first i kinds are stored.
use Rattle.ground.specs.Lists.{up_from}
use Rattle.generic_cube.specs.AllMoves.{turns_of}
use Rattle.ground.proofs.PutLaws.{Looped}
use Rattle.generic_cube.proofs.moves.put_kinds.Given as goal

abbrev pub invariant-loop-kind : goal.invariant-loop-kind
invariant-loop-kind l =
    Looped l.initial.out l.start l.kinds (turns_of (up_from l.first l.count)) l.kind-index l.out l.at
