-- Inner contract: what the writer of a move asks.
use Rattle.std.specs.Prelude.{ℕ, ◌+◌, ◌<◌, ◌≤◌, List, length}
use Rattle.generic_cube.specs.declared.Move.{Move}
use Rattle.scramble_writer.specs.Write.{token_text}

-- a move that can be written at `at`: a kind has a letter, a width three digits, and there is room
pub record Writable (out : List ℕ) (at : ℕ) (m : Move) : Type 0 where
  pub room : at + length (token_text m) ≤ length out
  pub kind : m.kind < 15
  pub width : m.width < 1024
