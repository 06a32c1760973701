pub mod TokenLaws
pub mod WordLaws
