use Rattle.std.proofs.Common.{◌≡◌, Some, inl, rules}
use Rattle.std.proofs.lemmas.Result.{err_from_is_err_and}
use Rattle.wasm_below.specs.Source.{reader_of}
use Rattle.wasm_module.specs.Refusals.{FunctionsFault}
use Rattle.wasm_module.specs.Sections.{IsSection}
use Rattle.wasm_module.specs.ModuleFunctions.{ListsTypes}
use Rattle.wasm_module.specs.declared.fault.ModuleFault.{ModuleFault}
use Rattle.wasm_module.specs.declared.fault.ModuleFault.TheVariants as fault
use Rattle.wasm_module.proofs.OfSection.{of_section, fault_at}
use Rattle.wasm_module.proofs.found.find_types.Goals as goal

pub returns-in-Some-clause-refused : goal.returns-in-Some-clause-refused
returns-in-Some-clause-refused c =
    let whole = reader_of c.args.features 0 c.args.bytes.now in
    let here : IsSection whole 3 (Some c.in-Some.contents) = search rules in
    of_section (c.unsigned_numbers.ensures 32) c.fixed_numbers.ensures.four ListsTypes (λ (f : ModuleFault). f ≡ fault.Memory) whole 3 c.in-Some.contents c.function_types.result here c.function_types.ensures.refused

pub returns-in_err-contents-clause-refused : goal.returns-in_err-contents-clause-refused
returns-in_err-contents-clause-refused c =
    let p = err_from_is_err_and c.from_residual.result c.from_residual.ensures.1 in
    rw (p.1, p.2) (λ section y (sections, is_module, is) counted. absurd (c.in_err-contents.ensures.refused sections is_module))

pub returns-in-Some-clause-fault : goal.returns-in-Some-clause-fault
returns-in-Some-clause-fault c =
    let whole = reader_of c.args.features 0 c.args.bytes.now in
    let here : IsSection whole 3 (Some c.in-Some.contents) = search rules in
    fault_at FunctionsFault whole 3 c.in-Some.contents c.function_types.result here c.function_types.ensures.fault

pub returns-in_err-contents-clause-fault : goal.returns-in_err-contents-clause-fault
returns-in_err-contents-clause-fault c =
    let p = err_from_is_err_and c.from_residual.result c.from_residual.ensures.1 in
    rw (p.1, p.2) (inl c.in_err-contents.ensures.fault)
