pub mod Cube
pub mod Apply
pub mod Inner
pub mod InnerFacelets
