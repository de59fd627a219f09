use Rattle.std.proofs.Common.{◌≡◌, ◌++◌, ◌∷◌, ◌-◌, ◌+◌, ◌/◌, length, string_bytes}
use Rattle.wasm_text.specs.Rows.{rows_from}
use Rattle.wasm_text.proofs.rows.end_line.Given as goal

abbrev pub invariant-loop-number : goal.invariant-loop-number
invariant-loop-number l = string_bytes l.out ++ rows_from (l.last - l.number) l.offset l.bytes (l.number + 1) ≡
    string_bytes l.fn.out ++ 10 ∷ rows_from ((length l.bytes - 1) / 9) l.offset l.bytes 1
