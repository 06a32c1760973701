-- `put_rest`: the first i tokens are stored, each behind a space.
use mathlib.Core.List.{◌∷◌}
use Rattle.ground.proofs.PutLaws.{Looped}
use Rattle.scramble_writer.specs.Write.{text_of}
use Rattle.scramble_writer.proofs.put_rest.Given as goal

abbrev pub invariant-loop-code : goal.invariant-loop-code
invariant-loop-code l = Looped l.initial.out l.start l.list (λ c. 32 ∷ text_of c) l.code-index l.out l.at
