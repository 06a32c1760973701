pub mod InnerIndex
pub mod Inner
