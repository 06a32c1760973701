-- `respond_to_lines`: the tests of `answer_to`, one after the other.
use native.Mathlib.Omega.{arith}
use Rattle.cube_response.specs.Program.{decimal, decimal_in}
use Rattle.cube_response.proofs.ProgramLaws.{long_one, long_two, no_size, a_size, size_most}
use Rattle.cube_response.proofs.ResponseLaws.{put_front, responds}
use Rattle.cube_response.proofs.response.respond_to_lines.Goals as goal

pub returns-then-one-gt4096 : goal.returns-then-one-gt4096
returns-then-one-gt4096 c = responds (long_one _ _ c.if-one-gt4096.true) (put_front c.put.ensures (omega (arith, c.requires)))

pub returns-then-two-gt4096 : goal.returns-then-two-gt4096
returns-then-two-gt4096 c = responds (long_two _ _ c.if-one-gt4096.false c.if-two-gt4096.true) (put_front c.put-then-two-gt4096.ensures (omega (arith, c.requires)))

pub returns-in_default : goal.returns-in_default
unfolding decimal decimal_in
returns-in_default c =
    responds (no_size _ _ (omega arith) (omega arith) c.in_default.ensures) (put_front c.put-in_default.ensures (omega (arith, c.requires)))

pub respond_to_scramble-requires : goal.respond_to_scramble-requires
respond_to_scramble-requires c =
    let s = c.in-Some.ensures {u = tt} in
    (record { some = omega (arith, s.0); most = size_most _ s.1 (λ z. omega (arith, s.0, z)); long = c.requires }, omega arith)

pub returns : goal.returns
returns c =
    let s = c.in-Some.ensures {u = tt} in
    responds (a_size _ _ (omega arith) (omega arith) _ s.1 (λ z. omega (arith, s.0, z))) c.respond_to_scramble.ensures
