pub mod ConstantTexts
