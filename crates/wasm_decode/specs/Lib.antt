pub mod Reading
pub mod OperatorSets
