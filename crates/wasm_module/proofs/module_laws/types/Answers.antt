use Rattle.wasm_below.specs.declared.message.NumberName.TheVariants as number_name
use Rattle.wasm_module.proofs.Composites.{sub_type_code, sub_type_determines, rec_type_code, rec_type_determines}
use Rattle.wasm_module.proofs.module_laws.types.Goals as goal

pub returns-clause-one : goal.returns-clause-one
returns-clause-one c = sub_type_code (c.unsigned_numbers.ensures 32) c.value_types.ensures

pub returns-clause-refusal : goal.returns-clause-refusal
returns-clause-refusal c =
    sub_type_determines (c.unsigned_numbers.ensures 32) c.value_types.ensures (c.number_refusals.ensures.any 32 number_name.VarU32) c.type_refusals.ensures.value

pub returns-clause-rec_type : goal.returns-clause-rec_type
returns-clause-rec_type c = rec_type_code (c.unsigned_numbers.ensures 32)

pub returns-clause-rec_type_refusal : goal.returns-clause-rec_type_refusal
returns-clause-rec_type_refusal c = rec_type_determines (c.unsigned_numbers.ensures 32) (c.number_refusals.ensures.any 32 number_name.VarU32)
