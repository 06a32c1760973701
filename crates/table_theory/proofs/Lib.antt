pub mod AddLaws
pub mod CountLaws
pub mod RisingLaws
pub mod ExactLaws
pub mod MemberLaws
