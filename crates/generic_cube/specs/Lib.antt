pub mod Sizes
pub mod Answers
pub mod Code
pub mod AllMoves
pub mod StickerIndex
pub mod Inner
