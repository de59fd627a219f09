use Rattle.std.proofs.Common.{sym, ap, ◌∙◌, arith}
use Rattle.std.proofs.Math.Seq.{drop-cons}
use Rattle.wasm_below.specs.Source.{Reader, rest}
use Rattle.wasm_below.proofs.binary_reader.BinaryReader.peek.Goals as goal

pub returns-clause-prefix : goal.returns-clause-prefix
returns-clause-prefix c =
    (_, sym (ap (λ (r : Reader). rest r) c.self.view_is) ∙ drop-cons c.self.inside.buffer.now c.self.inside.position 0 (omega arith))
