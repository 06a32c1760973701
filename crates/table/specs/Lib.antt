pub mod Order
pub mod Table
pub mod Entries
pub mod Inner
