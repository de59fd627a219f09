use Rattle.wasm_below.specs.declared.message.NumberName.TheVariants as number_name
use Rattle.wasm_module.proofs.Named.{export_code, export_determines}
use Rattle.wasm_module.proofs.module_laws.exports.Goals as goal

pub returns-clause-one : goal.returns-clause-one
returns-clause-one c = export_code (c.unsigned_numbers.ensures 32)

pub returns-clause-refusal : goal.returns-clause-refusal
returns-clause-refusal c = export_determines (c.unsigned_numbers.ensures 32) (c.number_refusals.ensures.any 32 number_name.VarU32)
