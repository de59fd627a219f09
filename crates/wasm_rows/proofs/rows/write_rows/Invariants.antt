use Rattle.std.proofs.Common.{◌≡◌, ℕ, ◌-◌, List, ◌++◌}
use Rattle.std.specs.Io.KnownBytes.{Appends}
use Rattle.wasm_rows.specs.Rows.{rows_from, rows_text}
use Rattle.wasm_rows.proofs.rows.write_rows.Given as goal

abbrev pub invariant-loop-number : goal.invariant-loop-number
invariant-loop-number g l =
    (done : List ℕ) × (done ++ rows_from (l.rows - l.number) l.before l.address l.bytes l.number ≡ rows_text l.before l.address l.bytes) ×
    Appends (g.W.Write.contents l.fn.writer) (g.W.Write.contents l.writer) done
