use Rattle.std.proofs.Common.{ap}
use Rattle.wasm_below.specs.Source.{Reader, rest}
use Rattle.wasm_below.proofs.TakesLemmas.{none_left}
use Rattle.wasm_below.proofs.binary_reader.BinaryReader.eof.Goals as goal

pub returns : goal.returns
returns c = none_left c.self.inside.position c.self.inside.buffer.now (rest c.args.self.now) (ap (λ (r : Reader). rest r) c.self.view_is) c.self.invariant.0
