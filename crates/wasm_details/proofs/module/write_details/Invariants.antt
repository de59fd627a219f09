use Rattle.std.proofs.Common.{ℕ, List, Bor, length}
use Rattle.std.specs.Prelude.{option_map}
use Rattle.wasm_below.specs.Source.{rest}
use Rattle.wasm_details.specs.Module.{ShowsDetails}
use Rattle.wasm_details.proofs.module.write_details.Given as goal

abbrev pub invariant-sections : goal.invariant-sections
invariant-sections g l =
    ShowsDetails (record { grammar = g.C.Read.grammar; shows = g.C.ConstantDetails.shows }) l.fn.names (option_map (λ (text : Bor (List ℕ)). text.now) l.fn.asked) l.initial.reader l.reader l.imported
    (g.W.Write.contents l.fn.writer) (g.W.Write.contents l.writer)

abbrev pub decreases-sections : goal.decreases-sections
decreases-sections g l = length (rest l.reader)
