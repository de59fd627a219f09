pub mod Grammar
pub mod Parts
pub mod Reading
pub mod Blocks
pub mod BlockLaws
