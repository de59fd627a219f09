pub mod Row
pub mod Roles
pub mod Kinds
pub mod Encoding
pub mod ModuleFacts
pub mod FixedArity
pub mod Arity
