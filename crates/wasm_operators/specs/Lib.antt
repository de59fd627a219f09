pub mod Expression
pub mod Flat
pub mod Openings
pub mod Visiting
pub mod Stack
pub mod Reading
pub mod Next
pub mod Sets
pub mod Guarded
pub mod Iterating
pub mod Collecting
pub mod MainTheorem
pub mod Laws
pub mod Locals
pub mod Body
pub mod Constant
pub mod ConstantFaults
pub mod Passing
pub mod Equality
pub mod Section
pub mod Single
pub use Rattle.wasm_below.specs as below
pub use Rattle.wasm_imm.specs as imm
pub use Rattle.wasm_grammar.specs as grammar
pub use Rattle.wasm_instr_ops.specs as instr_ops
pub use Rattle.wasm_instr_simd.specs as instr_simd
pub use Rattle.wasm_instr.specs as instr
pub use Rattle.wasm_decode_opcodes.specs as opcodes
pub use Rattle.wasm_decode.specs.Reading as Decoding
pub use Rattle.wasm_decode.specs.OperatorSets as sets
