pub mod Arms
pub mod OneByte
pub mod OutOfLine
pub mod WithoutImmediates
