-- Floats in units: sizes, bounds, and what the ranges of document 01 say of a number.
pub mod Magnitude
pub mod Ranges
pub mod SmallFactor
pub mod NeverPast
pub mod Bounded
pub mod InRange
pub mod RangeOf
