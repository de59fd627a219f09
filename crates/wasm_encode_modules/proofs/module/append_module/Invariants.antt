use Rattle.std.proofs.Common.{take}
use Rattle.wasm_encode_modules.proofs.ModuleSteps.{Sections}
use Rattle.wasm_encode_modules.proofs.module.append_module.Given as goal

abbrev pub invariant-loop-section : goal.invariant-loop-section
invariant-loop-section l = Sections (take l.section-index l.sections) l.fn.out.items l.out.items
