pub mod Offsets
pub mod Ranges
pub mod Turns
pub mod ClusterBoxes
pub mod Settling
pub mod Answers
pub mod Laid
pub mod Shown
