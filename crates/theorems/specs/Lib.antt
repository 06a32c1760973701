pub mod Geometry
pub mod Notation
pub mod Effects
pub mod Cases
pub mod Searching
pub mod OneAnswer
pub mod Boundary
pub mod CrateRule
