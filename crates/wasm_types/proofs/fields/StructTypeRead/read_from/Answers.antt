use Rattle.std.proofs.Common.{refl}
use Rattle.wasm_grammars.proofs.Steps.{begins, then, fails_first, ends}
use Rattle.wasm_types.specs.Types.{struct_type}
use Rattle.wasm_types.proofs.fields.StructTypeRead.read_from.Goals as goal

pub returns-in-Ok : goal.returns-in-Ok
returns-in-Ok c = ends (then (begins struct_type refl) c.in-Ok.ensures)

pub returns-in-Err : goal.returns-in-Err
returns-in-Err c = (c.in-Err.ensures.0, fails_first (begins struct_type refl) c.in-Err.ensures.1)
