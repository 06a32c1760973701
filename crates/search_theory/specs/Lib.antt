pub mod Search
pub mod Levels
pub mod CubeSearch
