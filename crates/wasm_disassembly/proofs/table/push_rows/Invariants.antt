use Rattle.std.proofs.Common.{◌≡◌, ◌++◌, take, string_bytes}
use Rattle.wasm_disassembly.specs.CountTable.{table_text}
use Rattle.wasm_disassembly.proofs.table.push_rows.Given as goal

abbrev pub invariant-loop-row : goal.invariant-loop-row
invariant-loop-row l = string_bytes l.out ≡ string_bytes l.initial.out ++ table_text (take l.row-index l.rows)
