-- The C boundary: every function answers one 64-bit number, number + 256·value, where number is 0 or the refusal, and value the count,
-- index or place, 0 where there is none.
use Rattle.std.specs.Prelude.{ℕ, ◌+◌, ◌*◌, ◌≡◌, ltb}
use Rattle.ground.specs.Choice.{pick}

-- a value that leaves no room in 64 bits is given as the largest that does: no list, text or table is that long
unfoldable pub pack : ℕ → ℕ → ℕ
pack number value = pick (ltb value 72057594037927936) (number + 256 * value) (number + 18446744073709551360)

-- what an exported function tells: the packing of an answer that, with the lent slices, meets the entry's statement
pub record Packed {A : Type 0} (number value : A → ℕ) (Result : A → Type 0) (r : ℕ) : Type 0 where
  pub answer : A
  pub result : Result answer
  pub packed : r ≡ pack (number answer) (value answer)

-- the version of the library, as VERSION in the repository's root has it: major·65,536 + minor·256 + patch. It is told as it is, not packed
-- (tests/version holds the two, the header and the Rust package to each other)
abbrev pub version : ℕ
version = 0 * 65536 + 4 * 256 + 0
