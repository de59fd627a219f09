pub mod Laws
pub mod Steps
pub mod Members
pub mod Inside
pub mod BlockSteps
