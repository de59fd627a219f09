pub mod Role
pub mod Tree
pub mod Frames
pub mod Beginning
pub mod OpenPath
