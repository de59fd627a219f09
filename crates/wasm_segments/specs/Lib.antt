pub mod Flags
pub mod Items
pub mod Elements
pub mod Segments
pub mod Globals
