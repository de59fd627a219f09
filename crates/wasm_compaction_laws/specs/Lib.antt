pub mod Sections
pub mod Sources
