mod Appended
mod Fits
mod LocalTypes
pub mod Operators
mod Puts
mod SameTypes
mod Sections
