pub mod Demand3
pub mod Duds
pub mod Tight
pub mod Inks
pub mod CardStock
pub mod SavedCards
