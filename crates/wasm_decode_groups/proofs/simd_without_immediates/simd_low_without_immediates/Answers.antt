use Rattle.std.proofs.Common.{ap}
use Rattle.wasm_decode_opcodes.specs.Entry.{entry_kinds}
use Rattle.wasm_decode_groups.proofs.simd_without_immediates.simd_low_without_immediates.Goals as goal

pub make-requires-clause-kinds : goal.make-requires-clause-kinds
make-requires-clause-kinds c = ap entry_kinds c.requires.without

pub returns : goal.returns
returns c = (c.make.ensures.1, c.make.ensures.2)
