pub mod Custom
pub mod Contents
pub mod Parsing
pub mod Payloads
