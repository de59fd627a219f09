pub mod Listed
pub mod Spaced
pub mod Shown
pub mod Named
