pub mod Bodies
pub mod Constants
pub mod Typed
