-- `is_group_sign`: each way out is the case of `sign_bit` that its tests choose.
use Prim.Native.Nat.{◌<◌}
use borrow.Author.Tests.{lt-ltb, le-ltb}
use borrow.Author.Rules.{rules}
use Rattle.tokens.proofs.WordLaws.{sign_bits, sign_bit, sign_by}
use Rattle.tokens.proofs.words.is_group_sign.Goals as goal
use Rattle.tokens.proofs.words.is_group_sign.Goals.{Start}

byte : (c : Start) → c.args.b < 256
byte c =
    search rules

pub returns-then-b-lt40 : goal.returns-then-b-lt40
unfolding sign_bit
returns-then-b-lt40 c =
    let b = c.args.b in rw (lt-ltb b 40 c.if-b-lt40.true) at (sign_by b (byte (goal.at.returns-then-b-lt40 c).Start))

pub returns-then-b-gt93 : goal.returns-then-b-gt93
unfolding sign_bit
returns-then-b-gt93 c =
    let b = c.args.b in
    rw (le-ltb b 40 c.if-b-lt40.false, lt-ltb 93 b c.if-b-gt93.true) at (sign_by b (byte (goal.at.returns-then-b-gt93 c).Start))

pub returns : goal.returns
unfolding sign_bit sign_bits
returns c =
    let b = c.args.b in
    rw (le-ltb b 40 c.if-b-lt40.false, le-ltb 93 b c.if-b-gt93.false) at (sign_by b (byte (goal.at.returns c).Start))
