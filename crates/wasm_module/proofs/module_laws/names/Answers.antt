use Rattle.wasm_below.specs.declared.message.NumberName.TheVariants as number_name
use Rattle.wasm_module.proofs.Named.{name_code, name_determines, association_code, association_determines}
use Rattle.wasm_module.proofs.module_laws.names.Goals as goal

pub returns-clause-one : goal.returns-clause-one
returns-clause-one c = name_code (c.unsigned_numbers.ensures 32)

pub returns-clause-refusal : goal.returns-clause-refusal
returns-clause-refusal c = name_determines (c.unsigned_numbers.ensures 32) (c.number_refusals.ensures.any 32 number_name.VarU32)

pub returns-clause-associated : goal.returns-clause-associated
returns-clause-associated c = association_code (c.unsigned_numbers.ensures 32)

pub returns-clause-associated_refusal : goal.returns-clause-associated_refusal
returns-clause-associated_refusal c = association_determines (c.unsigned_numbers.ensures 32) (c.number_refusals.ensures.any 32 number_name.VarU32)
