pub mod Environment
pub mod Segments
pub mod SetLocals
pub mod Selects
pub mod State
pub mod Switches
