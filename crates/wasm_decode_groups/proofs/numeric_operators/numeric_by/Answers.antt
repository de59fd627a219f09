-- Written by tools/lists.py from tools/operators.tsv.
use Rattle.std.proofs.Common.{ap}
use Rattle.wasm_decode_opcodes.specs.Entry.{entry_kinds}
use Rattle.wasm_decode_groups.proofs.Codes.{numeric_without_immediates_45}
use Rattle.wasm_decode_groups.proofs.numeric_operators.numeric_by.Goals as goal

pub at-requires-clause-group : goal.at-requires-clause-group
at-requires-clause-group g c = (c.requires.from, c.requires.to)

pub at-requires-clause-kinds : goal.at-requires-clause-kinds
at-requires-clause-kinds g c = ap entry_kinds (numeric_without_immediates_45 c.args.code c.requires.from c.requires.to).0
