use Rattle.std.proofs.Common.{length}
use Rattle.wasm_below.specs.Source.{rest}
use Rattle.wasm_compaction.proofs.Sections.{SectionsDone}
use Rattle.wasm_compaction.proofs.module.compact.Given as goal

abbrev pub invariant-sections : goal.invariant-sections
invariant-sections l = SectionsDone l.fn.choices l.initial.reader l.reader l.initial.out.items l.out.items

abbrev pub decreases-sections : goal.decreases-sections
decreases-sections l = length (rest l.reader)
