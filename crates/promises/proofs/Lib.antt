pub mod numbers
pub mod offset
pub mod gauge
pub mod packing
pub mod whole
pub mod saved
