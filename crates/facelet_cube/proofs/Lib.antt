pub mod CubeLaws
pub mod ApplyLaws
