pub mod Unique
pub mod Accepts
pub mod Steps
pub mod Paths
pub mod Runs
pub mod Innermost
