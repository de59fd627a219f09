use Rattle.std.proofs.Common.{Some, sym, ◌∙◌}
use Rattle.wasm_decode_opcodes.specs.Entries.{entry_at}
use Rattle.wasm_decode_groups.proofs.WithoutImmediates.{without}
use Rattle.wasm_decode_groups.proofs.simd_without_immediates.has_no_immediates.Goals as goal

pub returns-clause-without : goal.returns-clause-without
returns-clause-without c is = without (entry_at (Some 0xfd) c.args.code) (sym c.is_marked.ensures ∙ is)
