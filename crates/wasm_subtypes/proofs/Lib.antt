pub mod Order
pub mod Step
pub mod Adding
pub mod Comparing
pub mod Ascent
pub mod Numbers
pub mod Indexed
pub mod Pushes
