pub mod FaceLaws
pub mod RotationLaws
pub mod TurnLaws
pub mod MovedLaws
