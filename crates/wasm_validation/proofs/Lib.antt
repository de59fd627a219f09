pub mod Stacks
pub mod Untyped
pub mod Excluding
pub mod Checking
