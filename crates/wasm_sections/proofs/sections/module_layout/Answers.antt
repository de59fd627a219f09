use Rattle.wasm_sections.proofs.Framing.{one_module, module_determines}
use Rattle.wasm_sections.proofs.sections.module_layout.Goals as goal

pub returns-clause-one : goal.returns-clause-one
returns-clause-one c = one_module

pub returns-clause-refusals : goal.returns-clause-refusals
returns-clause-refusals c = module_determines
