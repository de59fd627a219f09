use Rattle.wasm_module.proofs.Laws.{one_own}
use Rattle.wasm_module.proofs.function_laws.defined_functions.Goals as goal

pub returns : goal.returns
returns c whole t u = one_own (c.unsigned_numbers.ensures 32) c.fixed_numbers.ensures.four c.imports.ensures.one whole t u
