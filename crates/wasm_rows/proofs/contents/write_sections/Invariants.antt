use Rattle.std.proofs.Common.{ℕ, List, Bor, length}
use Rattle.std.specs.Prelude.{option_map}
use Rattle.wasm_below.specs.Source.{rest}
use Rattle.wasm_rows.specs.Contents.{ShowsSections}
use Rattle.wasm_rows.proofs.contents.write_sections.Given as goal

abbrev pub invariant-sections : goal.invariant-sections
invariant-sections g l =
    ShowsSections (option_map (λ (text : Bor (List ℕ)). text.now) l.fn.asked) l.initial.reader l.reader (g.W.Write.contents l.fn.writer) (g.W.Write.contents l.writer)

abbrev pub decreases-sections : goal.decreases-sections
decreases-sections g l = length (rest l.reader)
