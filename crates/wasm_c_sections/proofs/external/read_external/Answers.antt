use Rattle.std.proofs.Common.{refl}
use Rattle.wasm_c_sections.specs.Externals.{external_item}
use Rattle.wasm_grammars.proofs.Steps.{begins, then, fails_in, ends_as}
use Rattle.wasm_c_sections.proofs.external.read_external.Goals as goal

pub returns-in-Ok : goal.returns-in-Ok
returns-in-Ok c = ends_as (then (begins (external_item c.args.reader.now.features) refl) c.in-Ok.ensures) (cc c.external_of.ensures)

pub returns-in-Err : goal.returns-in-Err
returns-in-Err c = (c.in-Err.ensures.0, fails_in (begins (external_item c.args.reader.now.features) refl) c.in-Err.ensures.1)
