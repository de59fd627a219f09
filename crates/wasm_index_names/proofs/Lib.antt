pub mod Unnamed
pub mod Given
pub mod Padded
