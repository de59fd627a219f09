pub mod Lengths
pub mod NextBody
pub mod OnePayload
pub mod Determined
