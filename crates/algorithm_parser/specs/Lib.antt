pub mod Algorithm
pub mod Groups
pub mod Inner
