-- Saved cards: written then read, and read then written.
pub mod ReadsBack
pub mod SameBytes
pub mod Cards
