pub mod ReaderLaws
pub mod RoomLaws
pub mod TellingLaws
pub mod CycleLaws
pub mod AnswerLaws
pub mod NumberLaws
