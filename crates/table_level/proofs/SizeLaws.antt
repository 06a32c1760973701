-- The size of a cube of which tables are built.
use Prim.Native.Nat.{ℕ, ◌≤◌}
use native.Mathlib.Nat.{mul-le-mul, mul-le-mul_left}
use Rattle.generic_cube.specs.Sizes.{stickers}

pub cube_some : {n : ℕ} → 1 ≤ n → 6 ≤ stickers n
cube_some h = mul-le-mul (mul-le-mul_left 6 h) h
