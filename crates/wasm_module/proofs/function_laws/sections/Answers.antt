use Rattle.wasm_module.proofs.Unique.{one_found}
use Rattle.wasm_module.proofs.function_laws.sections.Goals as goal

pub returns : goal.returns
returns c whole id a b = one_found (c.unsigned_numbers.ensures 32) c.fixed_numbers.ensures.four whole id a b
