use Rattle.std.proofs.Common.{ap, rules, length}
use Rattle.std.proofs.lemmas.Result.{err_from_is_err_and}
use Rattle.std.specs.Int.{w32}
use Rattle.wasm_below.specs.Number.{EncodesFixed}
use Rattle.wasm_below.proofs.Blocks.{short_refused}
use Rattle.wasm_below.proofs.binary_reader.BinaryReader.read_u32.Goals as goal

pub returns-in_err-block : goal.returns-in_err-block
returns-in_err-block c =
    let p = err_from_is_err_and c.from_residual.result c.from_residual.ensures.1 in
    let h = c.in_err-block.ensures in
    rw (p.1, p.2) (h.0, short_refused (EncodesFixed w32) 4 c.in_err-block.field-0.0 c.args.self.now (λ text x p. ap length p.0) (search rules) h.2, h.2)
