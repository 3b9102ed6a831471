pub mod Bodies
pub mod Given
