use Rattle.std.proofs.Common.{ℕ, ◌<◌, ap, sym, ◌∙◌, rules, length, get_or}
use Rattle.std.proofs.lemmas.Result.{err_from_is_err_and}
use Rattle.std.proofs.lemmas.Nat.{le_bytes_8}
use Rattle.std.specs.Int.{w64}
use Rattle.wasm_below.specs.Number.{EncodesFixed}
use Rattle.wasm_below.proofs.Blocks.{short_refused}
use Rattle.wasm_below.proofs.binary_reader.BinaryReader.read_u64.Goals as goal

pub returns-in_err-block : goal.returns-in_err-block
returns-in_err-block c =
    let p = err_from_is_err_and c.from_residual.result c.from_residual.ensures.1 in
    let h = c.in_err-block.ensures in
    rw (p.1, p.2) (h.0, short_refused (EncodesFixed w64) 8 c.in_err-block.field-0.0 c.args.self.now (λ text x p. ap length p.0) (search rules) h.2, h.2)

pub returns : goal.returns
returns c =
    let r = c.in_ok-block.ensures in
    let block = c.in_ok-block.block.now in
    let small : (i : ℕ) → get_or block i 0 < 256 = search rules in
    let bytes = le_bytes_8 block c.from_le_bytes.result (ap length r.1.0 ∙ r.1.1) small c.from_le_bytes.ensures in
    (r.0, (sym (bytes ∙ r.1.0), search rules), r.2)
