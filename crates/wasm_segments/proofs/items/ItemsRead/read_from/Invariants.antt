use Rattle.std.proofs.Common.{◌-◌}
use Rattle.wasm_below.specs.Source.{offset_of}
use Rattle.wasm_grammars.specs.Grammar.{thing}
use Rattle.wasm_segments.proofs.Passing.{Left}
use Rattle.wasm_segments.proofs.items.ItemsRead.read_from.Given as goal

abbrev pub invariant-loop-item : goal.invariant-loop-item
invariant-loop-item g l = Left (thing (g.T.Read.grammar l.fn.reader.features)) (offset_of l.fn.reader) l.count (l.count - l._item) l.first l.ahead
