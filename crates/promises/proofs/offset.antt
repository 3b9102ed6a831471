-- The offset step: a moved child stays inside its parent, and every other circle stands.
pub mod Reach
pub mod Distance
pub mod Contains
pub mod Totals
pub mod Tolerance
pub mod Parents
pub mod Moves
pub mod AfterOffset
