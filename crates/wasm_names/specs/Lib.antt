pub mod Names
pub mod Subsections
