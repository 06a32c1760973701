-- Inner contracts: numbers that are put into the output, and what a response to a scramble asks.
use Rattle.std.specs.Prelude.{ℕ, ◌≤◌, ◌==◌, List, Option, length, position}
use Rattle.ground.specs.Inner.{Put}
use Rattle.cube_response.specs.Program.{decimal}

-- a number of at most 20 digits
pub record PutNumber (out : List ℕ) (at x : ℕ) (new : List ℕ) (r : ℕ) : Type 0 where
  pub digits : Put out at (decimal x) new r
  pub few : length (decimal x) ≤ 20

-- a size of the program, and room for any response
pub record SizeAndRoom (n room : ℕ) : Type 0 where
  pub some : 1 ≤ n
  pub most : n ≤ 20
  pub long : 2401 ≤ room

-- where the first line feed stands, if there is one
abbrev pub line_feed : List ℕ → Option ℕ
line_feed input = position (λ b. b == 10) input
