pub mod Puts
pub mod Texts
pub mod Saving
pub mod Typed
