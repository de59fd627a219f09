pub mod Valid
pub mod Naming
