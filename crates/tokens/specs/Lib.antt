pub mod Token
pub mod Words
pub mod Inner
