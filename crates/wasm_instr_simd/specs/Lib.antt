pub mod Simd
