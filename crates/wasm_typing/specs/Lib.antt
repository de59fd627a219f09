pub mod Types
pub mod Matching
pub mod Rules
pub mod Typing
pub mod Checking
pub mod Steps
