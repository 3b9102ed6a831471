pub mod InOrder
pub mod Exits
