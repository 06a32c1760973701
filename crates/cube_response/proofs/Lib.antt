pub mod ProgramLaws
pub mod ResponseLaws
