pub mod Firsts
pub mod Limits
pub mod Blanks
pub mod Columns
pub mod CauseWords
