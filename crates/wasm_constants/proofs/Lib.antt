pub mod ConstantReads
