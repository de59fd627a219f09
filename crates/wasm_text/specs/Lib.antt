pub mod Names
pub mod Values
pub mod Floats
pub mod Operands
pub mod Rows
pub mod Lines
