pub mod Lists
pub mod Giving
pub mod Sections
pub mod Known
