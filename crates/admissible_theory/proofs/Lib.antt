pub mod BestLaws
pub mod LevelsLaws
pub mod AdmissibleLaws
