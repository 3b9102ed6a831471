pub mod Answers
pub mod Sides
pub mod Lists
pub mod Raised
