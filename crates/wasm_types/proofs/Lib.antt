pub mod Indices
pub mod Leading
