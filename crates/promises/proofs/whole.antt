-- The whole layout: the stages put together.
pub mod Kept
pub mod SixtyFour
pub mod Hang
pub mod Demand3
pub mod PackingAccepts
pub mod Duds
pub mod Tight
pub mod Lengths
pub mod Inks
pub mod CardStock
