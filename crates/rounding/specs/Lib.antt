pub mod Value
pub mod Extremes
pub mod Root
pub mod Scale
pub mod NearestRoot
