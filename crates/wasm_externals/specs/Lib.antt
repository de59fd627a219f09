pub mod Texts
pub mod Flags
pub mod Limits
pub mod Globals
pub mod Externals
