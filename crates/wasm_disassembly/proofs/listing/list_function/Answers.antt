use Rattle.std.proofs.Common.{ℕ, List, Result, IfErr, refl, sym, subst}
use Rattle.std.specs.Prelude.{IfOk, IsOk}
use Rattle.std.specs.Io.KnownBytes.{Appends}
use Rattle.wasm_operators.specs.below.declared.error.Error.{Error}
use Rattle.wasm_disassembly.specs.declared.listing_fault.Fault.{Fault}
use Rattle.wasm_disassembly.specs.Disassembly.{IsText}
use Rattle.wasm_disassembly.specs.Listing.{heading_at, IsFunction, IsHalt}
use Rattle.wasm_disassembly.proofs.Texts.{same_heading, text_whole, text_of_fault, whole_outcome, outcome_halts}
use Rattle.wasm_disassembly.proofs.listing.list_function.Goals as goal

abbrev Outcome : Type 0
Outcome = Result (Result (Unit {0}) Error) Fault

pub returns-in-Ok-clause-lists : goal.returns-in-Ok-clause-lists
returns-in-Ok-clause-lists g c =
    text_whole _ _ c.args.body.now _ _ (same_heading _ _ _ _ _ _ c.index-index.ensures refl c.parameters-parameters.ensures) c.in-Ok.ensures.text

pub returns-in-Err-clause-lists : goal.returns-in-Err-clause-lists
returns-in-Err-clause-lists g c =
    let same = same_heading _ _ _ _ _ _ c.index-index.ensures refl c.parameters-parameters.ensures in
    let old = g.W.Write.contents c.args.writer.now in
    let new = g.W.Write.contents c.disassemble.new.writer in
    let heading = heading_at c.args.names.now c.args.functions.now c.args.place in
    subst (λ (r : Outcome). IfOk r (λ outcome. (text : List ℕ) × Appends old new text × IsText heading outcome c.args.body.now text)) (sym c.outcome_of.ensures)
    (text_of_fault _ heading c.in-Err.fault c.args.body.now old new same c.in-Err.ensures.text)

pub returns-in-Err-clause-whole : goal.returns-in-Err-clause-whole
returns-in-Err-clause-whole g c =
    subst (λ (r : Outcome). IfOk r (λ outcome. IsFunction c.args.body.now → IsOk outcome)) (sym c.outcome_of.ensures)
    (whole_outcome (IsFunction c.args.body.now) c.in-Err.fault
    (λ (declarations, placed, encodes, few). c.in-Err.ensures.whole declarations placed encodes few))

pub returns-in-Err-clause-halts : goal.returns-in-Err-clause-halts
returns-in-Err-clause-halts g c = subst (λ (r : Outcome). IfErr r (λ f. IsHalt f)) (sym c.outcome_of.ensures) (outcome_halts c.in-Err.fault)
