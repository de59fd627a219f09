pub mod Writing
pub mod Rows
pub mod Titles
pub mod Contents
