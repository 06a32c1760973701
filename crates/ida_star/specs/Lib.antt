pub mod IdaStar
pub mod Inner
