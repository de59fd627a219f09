use Rattle.std.proofs.Common.{◌≡◌, List, Some, inl, inr, rules}
use Rattle.std.specs.Prelude.{◌⊎◌}
use Rattle.std.proofs.lemmas.Result.{err_from_is_err_and, IfErr-weaker}
use Rattle.wasm_below.specs.Source.{reader_of}
use Rattle.wasm_module.specs.Module.{SectionParts}
use Rattle.wasm_module.specs.Refusals.{SectionsFault, OfSection, ImportsFunction}
use Rattle.wasm_module.specs.Sections.{IsModule, IsSection}
use Rattle.wasm_module.specs.declared.fault.ModuleFault.TheVariants as fault
use Rattle.wasm_module.proofs.found.find_import_names.Goals as goal

pub returns-in-Some-clause-refused : goal.returns-in-Some-clause-refused
returns-in-Some-clause-refused c =
    let whole = reader_of c.args.features 0 c.args.bytes.now in
    IfErr-weaker c.import_names.result (λ f. (f ≡ fault.Memory) × ImportsFunction c.in-Some.contents)
    (λ f. (sections : List SectionParts) → IsModule whole sections → f ≡ fault.Memory) (λ f is sections is_module. is.0) c.import_names.ensures.memory

pub returns-in_err-contents-clause-refused : goal.returns-in_err-contents-clause-refused
returns-in_err-contents-clause-refused c =
    let p = err_from_is_err_and c.from_residual.result c.from_residual.ensures.1 in
    rw (p.1, p.2) (λ sections is_module. absurd (c.in_err-contents.ensures.refused sections is_module))

pub returns-in-Some-clause-fault : goal.returns-in-Some-clause-fault
returns-in-Some-clause-fault c =
    let whole = reader_of c.args.features 0 c.args.bytes.now in
    let contents = c.in-Some.contents in
    let here : IsSection whole 2 (Some contents) = search rules in
    IfErr-weaker c.import_names.result (λ f. (f ≡ fault.Memory) × ImportsFunction contents)
    (λ f. ((f ≡ fault.Memory) × OfSection whole 2 ImportsFunction) ⊎ SectionsFault f whole) (λ f is. inl (is.0, (contents, here, is.1))) c.import_names.ensures.memory

pub returns-in_err-contents-clause-fault : goal.returns-in_err-contents-clause-fault
returns-in_err-contents-clause-fault c =
    let p = err_from_is_err_and c.from_residual.result c.from_residual.ensures.1 in
    rw (p.1, p.2) (inr c.in_err-contents.ensures.fault)
