use Rattle.wasm_compaction.proofs.Bodies.{BodiesDone}
use Rattle.wasm_compaction.proofs.code.compact_code.Given as goal

abbrev pub invariant-bodies : goal.invariant-bodies
invariant-bodies l = BodiesDone l.fn.contents.features l.index l.initial.reader l.reader l.initial.out.items l.out.items
