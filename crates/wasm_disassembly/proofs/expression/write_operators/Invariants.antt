use Rattle.std.proofs.Common.{length}
use Rattle.wasm_operators.specs.below.Source.{rest}
use Rattle.wasm_disassembly.proofs.OperatorLines.{AreListed, shown_names}
use Rattle.wasm_disassembly.proofs.expression.write_operators.Given as goal

abbrev pub invariant-operators : goal.invariant-operators
invariant-operators g l = AreListed (shown_names l.function l.names) l.start l.bytes l.initial.operators l.operators l.depth (g.W.Write.contents l.fn.writer) (g.W.Write.contents l.writer)

abbrev pub decreases-operators : goal.decreases-operators
decreases-operators g l = length (rest l.operators.reader)
