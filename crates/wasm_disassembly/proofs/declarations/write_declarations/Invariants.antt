use Rattle.wasm_disassembly.proofs.Declared.{IsOnTheWay}
use Rattle.wasm_disassembly.proofs.declarations.write_declarations.Given as goal

abbrev pub invariant-loop-declaration : goal.invariant-loop-declaration
invariant-loop-declaration g l =
    IsOnTheWay l.start l.bytes l.parameters l._declaration l.first l.fn.locals l.locals (g.W.Write.contents l.fn.writer) (g.W.Write.contents l.writer)
