pub mod Numeric
pub mod Gc
pub mod Misc
pub mod Atomic
