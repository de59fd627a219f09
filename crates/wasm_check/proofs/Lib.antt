pub mod Along
pub mod Driving
pub mod Remaining
