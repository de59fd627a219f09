use Rattle.std.proofs.Common.{length}
use Rattle.wasm_operators.specs.below.Source.{rest}
use Rattle.wasm_disassembly.specs.Headers.{ShowsSections}
use Rattle.wasm_disassembly.proofs.headers.list_sections.Given as goal

abbrev pub invariant-sections : goal.invariant-sections
invariant-sections g l = ShowsSections l.initial.reader l.reader (g.W.Write.contents l.fn.writer) (g.W.Write.contents l.writer)

abbrev pub decreases-sections : goal.decreases-sections
decreases-sections g l = length (rest l.reader)
