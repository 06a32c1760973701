use native.Mathlib.Omega.{arith}
use Rattle.scramble_writer.proofs.WriteLaws.{taken_fits}
use Rattle.scramble_writer.proofs.put_code.Goals as goal

pub put_token-requires : goal.put_token-requires
put_token-requires c = taken_fits _ c.in-Ok.ensures (omega arith) c.requires
