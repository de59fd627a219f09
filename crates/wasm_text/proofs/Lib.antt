pub mod Fractions
pub mod Pieces
pub mod Tables
pub mod Targets
pub mod Steps
