pub mod Limits
pub mod Lift
