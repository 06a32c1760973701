pub mod SimplifyLaws
pub mod ListLaws
