pub mod InnerLanes
