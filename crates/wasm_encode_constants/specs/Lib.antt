pub mod BytesLaws
pub mod ConstantBytes
