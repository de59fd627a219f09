use Rattle.wasm_module.proofs.OneFault.{fault_or_module, one_fault}
use Rattle.wasm_module.proofs.function_laws.refusals.Goals as goal

pub returns-clause-one : goal.returns-clause-one
returns-clause-one c whole a b p q =
    one_fault (c.unsigned_numbers.ensures 32) c.fixed_numbers.ensures.four c.refusals.ensures.preamble c.refusals.ensures.section whole a b p q

pub returns-clause-none : goal.returns-clause-none
returns-clause-none c whole fault sections p is =
    fault_or_module (c.unsigned_numbers.ensures 32) c.fixed_numbers.ensures.four whole fault sections p is
