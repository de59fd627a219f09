pub mod Shortened
pub mod Writing
pub use Rattle.wasm_encode_numbers.specs as number_specs
pub use Rattle.wasm_encode_immediates.specs as immediate_specs
pub use Rattle.wasm_encode_operators.specs as operator_specs
