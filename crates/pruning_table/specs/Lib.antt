pub mod PruningTable
pub mod Inner
