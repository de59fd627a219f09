pub mod Ranges
pub mod Items
pub mod Payloads
pub mod Externals
pub mod Names
