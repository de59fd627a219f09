pub mod Arms
pub mod Codes
pub mod Copies
pub mod WithoutImmediates
pub mod Ranges
