-- Inner contracts: what is known of a size and of a move once they are taken, and of the lists of kinds.
use Rattle.std.specs.Prelude.{ℕ, ◌<◌, ◌≤◌, ◌≡◌, List, length, get_or}
use Rattle.generic_cube.specs.declared.Move.{Move}

-- a size that passed the test `sized`, as bounds
pub record Sized (n : ℕ) : Type 0 where
  pub some : 0 < n
  pub size : n ≤ 104

-- a move that is taken, its width in range
pub record Fair (n : ℕ) (m : Move) : Type 0 where
  pub some : 1 ≤ m.turn
  pub most : m.turn ≤ 3
  pub kind : m.kind < 15
  pub width : m.width ≤ n

-- a move that fits a code
pub record Codable (m : Move) : Type 0 where
  pub kind : m.kind < 16
  pub width : m.width ≤ 1023
  pub turn : m.turn ≤ 3

-- six kinds, each below 15
pub record Kinds (ks : List ℕ) : Type 0 where
  pub six : length ks ≡ 6
  pub small : (i : ℕ) → get_or ks i 0 < 15
