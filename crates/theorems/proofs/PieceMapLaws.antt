-- The source's order of stickers (`create_piece_map`) is the rules'.
use mathlib.Core.Path.{refl}
use native.Mathlib.Omega.{arith}
use Rattle.sticker.specs.declared.Face.TheVariants.{U, R, F, D, L, B}
use Rattle.sticker.proofs.PlaceLaws.{pos_eq}
use Rattle.geometric_moves.specs.Turn.{turn_of}
use Rattle.theorems.specs.Geometry.{from_top, FacesFromTop}

pub faces_from_top : FacesFromTop
unfolding from_top turn_of
faces_from_top n U x z hx hz = refl
faces_from_top n R x z hx hz = pos_eq _ _ (omega arith) (omega arith) (omega arith)
faces_from_top n F x z hx hz = pos_eq _ _ (omega arith) (omega arith) (omega arith)
faces_from_top n D x z hx hz = pos_eq _ _ (omega arith) (omega arith) (omega arith)
faces_from_top n L x z hx hz = pos_eq _ _ (omega arith) (omega arith) (omega arith)
faces_from_top n B x z hx hz = pos_eq _ _ (omega arith) (omega arith) (omega arith)
