pub mod Locals
pub mod Runs
