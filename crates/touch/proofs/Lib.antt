pub mod Touching
pub mod FirstTouches
