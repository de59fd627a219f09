-- Written by tools/lists.py from tools/operators.tsv.
use Rattle.std.proofs.Common.{refl, sym, ◌∙◌}
use Rattle.wasm_decode_groups.proofs.Codes.{simd_high_without_immediates_arm}
use Rattle.wasm_decode_groups.proofs.WithoutImmediates.{no_operator}
use Rattle.wasm_decode_groups.proofs.simd_high_operators.simd_high_by.Goals as goal

pub arm-requires-clause-kinds : goal.arm-requires-clause-kinds
arm-requires-clause-kinds g c = simd_high_without_immediates_arm c.args.code (c.has_no_immediates.ensures.without c.if-has_no_immediates.true)

pub unknown_subopcode-requires-clause-unknown : goal.unknown_subopcode-requires-clause-unknown
unknown_subopcode-requires-clause-unknown g c = no_operator c.args.code c.requires.half (sym c.has_no_immediates.ensures.exact ∙ c.if-has_no_immediates.false)

pub returns : goal.returns
returns g c k = (refl, c.unknown_subopcode.ensures k)
