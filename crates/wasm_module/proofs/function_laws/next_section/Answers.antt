use Rattle.wasm_module.proofs.Occurring.{one_more, shorter}
use Rattle.wasm_module.proofs.function_laws.next_section.Goals as goal

pub returns-clause-more : goal.returns-clause-more
returns-clause-more c = one_more

pub returns-clause-shorter : goal.returns-clause-shorter
returns-clause-shorter c = shorter
