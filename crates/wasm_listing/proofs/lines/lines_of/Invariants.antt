use Rattle.std.proofs.Common.{◌≡◌, take, string_bytes}
use Rattle.wasm_listing.specs.Dump.{lines}
use Rattle.wasm_listing.proofs.lines.lines_of.Given as goal

abbrev pub invariant-loop-operator : goal.invariant-loop-operator
invariant-loop-operator l = string_bytes l.text ≡ lines (take l.operator-index l.operators)
