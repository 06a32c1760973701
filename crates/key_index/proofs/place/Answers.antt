-- `place`: the product fits, and the run with it.
use mathlib.Core.Path.{refl}
use Rattle.key_index.specs.InnerIndex.{run_start_of}
use Rattle.key_index.proofs.WordLaws.{place_most}
use Rattle.key_index.proofs.place.Goals as goal

pub returns : goal.returns
unfolding run_start_of
returns c = (refl, place_most c.args.slots c.args.h c.requires.0 c.requires.1)
