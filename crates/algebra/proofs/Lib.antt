pub mod Polynomial
pub mod Ring
pub mod Size
pub mod Squares
pub mod Table
