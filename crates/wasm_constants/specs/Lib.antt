pub mod Constants
pub mod ConstantLaws
