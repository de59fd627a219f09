pub mod Refused
pub mod Skipping
