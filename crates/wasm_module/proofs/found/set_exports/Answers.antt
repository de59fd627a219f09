use Rattle.std.proofs.Common.{List, ℕ, Some, inl, rules}
use Rattle.std.proofs.lemmas.Result.{err_from_is_err_and, IfErr-weaker}
use Rattle.wasm_below.specs.Source.{reader_of}
use Rattle.wasm_module.specs.Exports.{ExportParts, EncodesExport}
use Rattle.wasm_module.specs.Items.{IsList}
use Rattle.wasm_module.specs.FunctionNames.{NamesExported}
use Rattle.wasm_module.specs.Refusals.{ExportsFault}
use Rattle.wasm_module.specs.Sections.{IsSection}
use Rattle.wasm_module.proofs.OfSection.{of_two, fault_at}
use Rattle.wasm_module.proofs.found.set_exports.Goals as goal

pub returns-in-Some-clause-refused : goal.returns-in-Some-clause-refused
returns-in-Some-clause-refused c =
    let whole = reader_of c.args.features 0 c.args.bytes.now in
    let contents = c.in-Some.contents in
    let here : IsSection whole 7 (Some contents) = search rules in
    let refused = IfErr-weaker c.name_exports.result (λ fault. (exports : List ExportParts) → IsList EncodesExport contents exports → ⊥)
    (λ fault. (before after : List (List ℕ)) → NamesExported (Some contents) before after → ⊥)
    (λ fault f before after named. f named.0 named.1) c.name_exports.ensures.refused in
    of_two (c.unsigned_numbers.ensures 32) c.fixed_numbers.ensures.four NamesExported whole 7 contents c.name_exports.result here refused

pub returns-in_err-contents-clause-refused : goal.returns-in_err-contents-clause-refused
returns-in_err-contents-clause-refused c =
    let p = err_from_is_err_and c.from_residual.result c.from_residual.ensures.1 in
    rw p.1 (λ section before after (sections, is_module, is) named. c.in_err-contents.ensures.refused sections is_module)

pub returns-in-Some-clause-fault : goal.returns-in-Some-clause-fault
returns-in-Some-clause-fault c =
    let whole = reader_of c.args.features 0 c.args.bytes.now in
    let here : IsSection whole 7 (Some c.in-Some.contents) = search rules in
    fault_at ExportsFault whole 7 c.in-Some.contents c.name_exports.result here c.name_exports.ensures.fault

pub returns-in_err-contents-clause-fault : goal.returns-in_err-contents-clause-fault
returns-in_err-contents-clause-fault c =
    let p = err_from_is_err_and c.from_residual.result c.from_residual.ensures.1 in
    rw (p.1, p.2) (inl c.in_err-contents.ensures.fault)
