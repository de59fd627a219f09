pub mod NumericByOpcode
pub mod NumericEquality
pub mod GcByOpcode
pub mod GcEquality
pub mod MiscByOpcode
pub mod MiscEquality
pub mod AtomicByOpcode
pub mod AtomicEquality
