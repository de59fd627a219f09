pub mod Descent
pub mod Alike
pub mod Types
pub mod Composites
pub mod Only
pub mod Errors
pub mod Keys
