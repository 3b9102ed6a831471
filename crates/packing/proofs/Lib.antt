pub mod Arrays
pub mod Grid
pub mod ColumnTable
pub mod Counting
pub mod Packings
pub mod PackedBoxes
pub mod RaisedWord
