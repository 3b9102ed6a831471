pub mod Itself
pub mod Samples
