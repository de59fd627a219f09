pub mod Within
pub mod Framing
pub mod Found
pub mod AllItems
