pub mod AnswerLaws
pub mod CodeLaws
pub mod WidthLaws
pub mod AllMovesLaws
pub mod StickerLaws
pub mod FillLaws
