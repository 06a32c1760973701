pub mod Parse
pub mod Inner
