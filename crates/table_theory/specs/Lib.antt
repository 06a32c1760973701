pub mod Built
pub mod Exact
