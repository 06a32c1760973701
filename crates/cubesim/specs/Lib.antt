pub mod Pack
