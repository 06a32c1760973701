use native.Mathlib.Omega.{arith}
use Rattle.tokens.proofs.TokenLaws.{face_places, letter_packed}
use Rattle.tokens.proofs.letter.Goals as goal

pub returns-in-66-to-85 : goal.returns-in-66-to-85
unfolding face_places
returns-in-66-to-85 c = rw (c.then_some.ensures, ← c.at.ensures) (letter_packed c.at.result (omega arith) (omega arith))
