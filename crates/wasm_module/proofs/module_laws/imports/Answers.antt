use Rattle.wasm_below.specs.declared.message.NumberName.TheVariants as number_name
use Rattle.wasm_module.proofs.Imported.{import_code, import_determines}
use Rattle.wasm_module.proofs.module_laws.imports.Goals as goal

pub returns-clause-one : goal.returns-clause-one
returns-clause-one c = import_code c.unsigned_numbers.ensures c.reference_types.ensures c.value_types.ensures

pub returns-clause-refusal : goal.returns-clause-refusal
returns-clause-refusal c =
    import_determines c.unsigned_numbers.ensures c.reference_types.ensures c.value_types.ensures (c.number_refusals.ensures.any 32 number_name.VarU32)
    (c.number_refusals.ensures.any 64 number_name.VarU64) c.type_refusals.ensures.reference c.type_refusals.ensures.value
