use Rattle.wasm_below.specs.declared.message.NumberName.TheVariants as number_name
use Rattle.wasm_module.proofs.OneModuleFault.{memory_alone, one_module_fault}
use Rattle.wasm_module.proofs.function_laws.faults.Goals as goal

pub returns-clause-one : goal.returns-clause-one
returns-clause-one c whole a b p q other other' =
    one_module_fault (c.unsigned_numbers.ensures 32) c.fixed_numbers.ensures.four c.imports.ensures.one c.exports.ensures.one c.types.ensures.one
    c.types.ensures.rec_type (c.number_refusals.ensures.any 32 number_name.VarU32) c.refusals.ensures.preamble c.refusals.ensures.section
    c.imports.ensures.refusal c.exports.ensures.refusal c.types.ensures.refusal c.types.ensures.rec_type_refusal whole a b p q other other'

pub returns-clause-memory : goal.returns-clause-memory
returns-clause-memory c whole fault t p is =
    memory_alone (c.unsigned_numbers.ensures 32) c.fixed_numbers.ensures.four c.imports.ensures.one c.exports.ensures.one c.types.ensures.one
    c.types.ensures.rec_type whole fault t p is
