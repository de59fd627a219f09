pub mod Valid
pub mod Faults
