pub mod Records
pub mod Limits
pub mod Lift
pub mod Boxes
