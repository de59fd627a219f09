pub mod Passing
pub mod Leading
