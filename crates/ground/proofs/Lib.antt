pub mod ChoiceLaws
pub mod ListLaws
pub mod FillLaws
pub mod CopyLaws
pub mod PutLaws
pub mod RefusalLaws
