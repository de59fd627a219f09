pub mod SimdByOpcode
pub mod SimdEquality
