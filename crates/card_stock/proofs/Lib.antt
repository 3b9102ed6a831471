pub mod Sheets
pub mod Finished
