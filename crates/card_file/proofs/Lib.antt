pub mod FromBytes
pub mod FieldLaws
pub mod Filling
pub mod Reading
pub mod Values
