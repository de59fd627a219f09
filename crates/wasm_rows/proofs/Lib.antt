pub mod Appended
pub mod Sections
