pub mod Blocks
pub mod Compaction
pub mod Custom
pub mod Faults
pub mod Reading
