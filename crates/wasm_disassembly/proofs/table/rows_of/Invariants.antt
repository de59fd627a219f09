use Rattle.std.proofs.Common.{◌≡◌, ◌++◌, drop}
use Rattle.wasm_disassembly.specs.CountTable.{rows_from}
use Rattle.wasm_disassembly.proofs.table.rows_of.Given as goal

abbrev pub invariant-places : goal.invariant-places
invariant-places l = rows_from 0 l.counts ≡ l.rows.items ++ rows_from l.place (drop l.place l.counts)
