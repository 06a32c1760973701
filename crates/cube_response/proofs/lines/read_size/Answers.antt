-- `read_size`: the tests of `size_of`, one after the other.
use mathlib.Core.Path.{◌≡◌, sym, ◌∙◌}
use mathlib.Core.Bool.{false}
use Rattle.generic_cube.specs.Code.{outside}
use Rattle.generic_cube.proofs.CodeLaws.{inside}
use Rattle.cube_response.proofs.ProgramLaws.{size_other, size_long, size_zero, size_is, size_large}
use native.Mathlib.Omega.{arith}
use Rattle.cube_response.proofs.lines.read_size.Goals as goal
use Rattle.cube_response.proofs.lines.read_size.Goals.{Else-is_outside}

-- one or two digits
few : (c : Else-is_outside) → outside 1 2 c.digits-k.result ≡ false
few c = sym c.is_outside.ensures ∙ c.if-is_outside.false

pub returns-then-k-one : goal.returns-then-k-one
returns-then-k-one c = sym (size_other _ c.digits-k.ensures.0 c.if-k-one.true)

pub returns-then-is_outside : goal.returns-then-is_outside
returns-then-is_outside c = sym (size_long _ c.digits-k.ensures.0 c.if-k-one.false (sym c.is_outside.ensures ∙ c.if-is_outside.true))

pub bounds-one-0 : goal.bounds-one-0
bounds-one-0 c =
    omega (arith, c.if-k-one.false, (inside 1 2 _ (few (goal.at.bounds-one-0 c).Else-is_outside)).0)

pub returns-then-one-eq48 : goal.returns-then-one-eq48
returns-then-one-eq48 c =
    sym (size_zero _ c.digits-k.ensures.0 c.if-k-one.false (few (goal.at.returns-then-one-eq48 c).Else-is_outside) c.if-one-eq48.true)

pub returns-then-n-eq0 : goal.returns-then-n-eq0
returns-then-n-eq0 c =
    sym (size_is _ c.digits-k.ensures.0 c.if-k-one.false (few (goal.at.returns-then-n-eq0 c).Else-is_outside) c.if-one-eq48.false
    c.number-n.ensures (omega arith)) ∙ c.if-n-eq0.true

pub returns-then-n-gt20 : goal.returns-then-n-gt20
returns-then-n-gt20 c =
    sym (size_large _ c.digits-k.ensures.0 c.if-k-one.false (few (goal.at.returns-then-n-gt20 c).Else-is_outside) c.if-one-eq48.false
    c.number-n.ensures c.if-n-gt20.true)

pub returns : goal.returns
returns c = (
  omega arith,
  size_is _ c.digits-k.ensures.0 c.if-k-one.false (few (goal.at.returns c).Else-is_outside) c.if-one-eq48.false
      c.number-n.ensures (omega arith),
)
