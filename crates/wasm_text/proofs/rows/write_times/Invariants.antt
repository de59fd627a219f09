use Rattle.std.proofs.Common.{◌≡◌, ◌++◌, ◌-◌, string_bytes}
use Rattle.std.specs.List.{repeat}
use Rattle.wasm_text.proofs.rows.write_times.Given as goal

abbrev pub invariant-loop-time : goal.invariant-loop-time
invariant-loop-time l = string_bytes l.out ++ repeat (l.times - l._time) l.text ≡ string_bytes l.fn.out ++ repeat l.times l.text
