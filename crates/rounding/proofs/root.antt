-- The root: that it is the nearest value, unique, near, and how to work it out from whole numbers.
pub mod Whole
pub mod Nearest
pub mod Error
pub mod Unique
pub mod Overflow
pub mod Units
pub mod Operation
pub mod Hypot
pub mod Tests
pub mod Only
