use Rattle.std.proofs.Common.{◌-◌}
use Rattle.wasm_below.specs.Source.{offset_of}
use Rattle.wasm_grammars.specs.Grammar.{thing}
use Rattle.wasm_grammars.specs.Parts.{val_type}
use Rattle.wasm_segments.proofs.Passing.{Left}
use Rattle.wasm_c_items.proofs.types.read_types.Given as goal

abbrev pub invariant-loop-item : goal.invariant-loop-item
invariant-loop-item l = Left (thing val_type) (offset_of l.fn.reader) l.count (l.count - l._item) l.first l.ahead
