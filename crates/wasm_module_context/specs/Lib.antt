pub mod References
pub mod Constants
pub mod Items
pub mod Exhaustion
pub mod Parts
pub mod Payloads
pub mod Modules
