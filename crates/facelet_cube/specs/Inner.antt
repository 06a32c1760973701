-- Inner contracts: slices, masks and lists that nothing is refused for, and a move of a whole cube.
use Rattle.std.specs.Prelude.{ℕ, ◌<◌, ◌≡◌, List, length, get_or}
use Rattle.generic_cube.specs.declared.Move.{Move}
use Rattle.generic_cube.specs.Sizes.{stickers}
use Rattle.generic_cube.specs.Code.{list_refusal}
use Rattle.generic_cube.specs.Inner.{Sized, Fair}

-- a slice that is a cube's
pub record Whole (n long : ℕ) : Type 0 where
  pub size : Sized n
  pub long_is : long ≡ stickers n

-- what a mask that is not refused may count on
pub record Masks (n cube : ℕ) (ids : List ℕ) (keep : ℕ) : Type 0 where
  pub cube_long : cube ≡ stickers n
  pub ids_long : length ids ≡ stickers n
  pub keep_long : keep ≡ stickers n
  pub small : (j : ℕ) → j < stickers n → get_or ids j 0 < stickers n

-- a list of moves that is run on a cube, with a work area
pub record Runnable (n : ℕ) (cube work : ℕ) (moves : List ℕ) : Type 0 where
  pub size : Sized n
  pub cube_long : cube ≡ stickers n
  pub work_long : work ≡ stickers n
  pub list : list_refusal n moves ≡ 0

-- a move of one cube into another, or in place
pub record Turnable (n : ℕ) (m : Move) (old new : ℕ) : Type 0 where
  pub sized : Sized n
  pub fair : Fair n m
  pub old_long : old ≡ stickers n
  pub new_long : new ≡ stickers n
