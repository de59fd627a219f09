use Rattle.std.proofs.Common.{refl}
use Rattle.wasm_grammars.proofs.Steps.{begins, fails_at}
use Rattle.wasm_module_context.specs.Parts.{function_index}
use Rattle.wasm_module_context.proofs.function_index.FunctionIndexRead.read_from.Goals as goal

pub returns-in-Err : goal.returns-in-Err
returns-in-Err c = (c.in-Err.ensures.0, fails_at (begins function_index refl) c.in-Err.ensures)
