pub mod VisitLaws
pub mod PassesLaws
pub mod IdaStarLaws
