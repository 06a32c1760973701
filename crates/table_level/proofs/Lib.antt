pub mod SizeLaws
pub mod LevelLaws
