use Rattle.std.proofs.Common.{◌-◌, ◌≤◌}
use Rattle.wasm_below.specs.Source.{offset_of}
use Rattle.wasm_grammars.proofs.Steps.{Comes}
use Rattle.wasm_names.specs.Names.{skipped_names, skipped}
use Rattle.wasm_names.proofs.indirect.skip_names.Given as goal

abbrev pub invariant-loop-name : goal.invariant-loop-name
invariant-loop-name l = Comes (offset_of l.fn.reader) skipped_names l.fn.reader (skipped (l.count - l._name) (l.count, l.first)) l.ahead × (offset_of l.fn.reader ≤ l.first) × (l.first ≤ offset_of l.ahead)
