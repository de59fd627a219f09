pub mod Bodies
pub mod Fates
pub mod Functions
pub mod Refused
pub mod Sections
pub mod Sizes
