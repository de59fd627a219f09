pub mod Allowed
pub mod Decoding
pub mod Entries
pub mod Entry
pub mod Kinds
pub mod OperatorFaults
pub mod Owners
pub mod Refused
