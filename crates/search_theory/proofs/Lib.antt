pub mod SearchLaws
pub mod PathFreeLaws
pub mod RuleLaws
