pub mod Answers
pub mod Unused
pub mod Parts
pub mod Tags
