use Rattle.std.proofs.Common.{refl}
use Rattle.std.proofs.lemmas.Bool.{ne_eqb}
use Rattle.wasm_grammars.proofs.Steps.{begins, no}
use Rattle.wasm_segments.specs.Elements.{type_if}
use Rattle.wasm_segments.proofs.Passing.{ends_part}
use Rattle.wasm_segments.proofs.element.read_type.Goals as goal

pub returns : goal.returns
returns c = ends_part (no (begins (type_if c.args.flags) refl) (ne_eqb _ _ c.if-flags-eq0.false)) refl c.read.result c.read.new.reader c.read.ensures
