pub mod LaneLaws
pub mod EdgeLaws
pub mod RingLaws
pub mod CycleLaws
pub mod KeyLaws
pub mod SideLaws
pub mod InPlaceLaws
