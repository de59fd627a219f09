use Rattle.std.proofs.Common.{ℕ, ◌<◌, length, Option, Some, None, refl, inl, inr, arith}
use Rattle.wasm_below.specs.declared.error.Error.{Error}
use Rattle.wasm_below.specs.Source.{Reader}
use Rattle.wasm_module.specs.declared.fault.ModuleFault.TheVariants as fault
use Rattle.wasm_module.specs.ModuleFunctions.{ModuleFunctions, DescribesFunctions, IsDefined}
use Rattle.wasm_module.specs.Refusals.{ModuleFunctionsFault, HasTypes, HasImports, HasFunctions}
use Rattle.wasm_module.specs.Sections.{IsSection}
use Rattle.wasm_module.specs.Bodies.{RefusesCount}

-- The number of functions is in error.
pub count_refused : (whole : Reader) (t : ModuleFunctions) (contents : Option Reader) (e : Error) → DescribesFunctions whole t → IsSection whole 3 contents →
    RefusesCount e contents → ModuleFunctionsFault (fault.Refused e) whole
count_refused whole t None e d is h = absurd h
count_refused whole t (Some contents) e d is h =
    let types : HasTypes whole = (d.signatures, t.parameters, d.section_of_types, d.parameters) in
    let imports : HasImports whole = (d.imports, t.imported, d.section_of_imports, d.imported) in
    inr (inr (inl (types, imports, inr (contents, is, inl h))))

-- Allocation for the name of a function may fail.
pub memory_fault : (whole : Reader) (t : ModuleFunctions) (index : ℕ) → DescribesFunctions whole t → IsDefined t index → ModuleFunctionsFault fault.Memory whole
memory_fault whole t index d (from, to) =
    let types : HasTypes whole = (d.signatures, t.parameters, d.section_of_types, d.parameters) in
    let imports : HasImports whole = (d.imports, t.imported, d.section_of_imports, d.imported) in
    let functions : HasFunctions whole (length t.types) = (d.functions, t.types, d.section_of_functions, d.types, refl) in
    let some : 0 < length t.types = omega (arith, from, to) in
    inr (inr (inr (types, imports, length t.types, functions, inl (refl, inr some))))
