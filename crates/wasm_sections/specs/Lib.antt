pub mod Preamble
pub mod Section
pub mod Module
pub mod Iterating
pub mod Items
pub mod Order
pub mod Delimited
