use Rattle.std.proofs.Common.{sym}
use Rattle.wasm_below.specs.Source.{EndsWithin}
use Rattle.wasm_below.proofs.Blocks.{short_refused}
use Rattle.wasm_below.proofs.Steps.{unsigned_some}
use Rattle.wasm_grammars.specs.BlockLaws.{IsBytes, bytes_are_part}
use Rattle.wasm_grammars.specs.Parts.{never}
use Rattle.wasm_grammars.specs.Blocks.{sized}
use Rattle.wasm_grammars.proofs.Steps.{begins, then, fails_at, part_fails, inside, stays}
use Rattle.wasm_grammars.proofs.bytes.BytesRead.read_from.Goals as goal

pub returns-in_err-size : goal.returns-in_err-size
returns-in_err-size c = stays _ c.from_residual.ensures.1 (fails_at (begins sized c.clone-ahead.ensures) c.in_err-size.ensures)

pub returns-in_err-bytes : goal.returns-in_err-bytes
returns-in_err-bytes c =
    let n = c.in_ok-size.size in
    let size = then (begins sized c.clone-ahead.ensures) c.in_ok-size.ensures in
    let (text, p, t) = c.in_ok-size.ensures in
    let short = short_refused (IsBytes n) n c.in_err-bytes.field-0.0 c.read_var_u32.new.self (λ text x q. q.1) (inside _ _ text t (unsigned_some 32 text n p)) c.in_err-bytes.ensures.2 in
    stays _ c.from_residual-in_err-bytes.ensures.1 (size.fails _ (part_fails (IsBytes n) (EndsWithin n) never (bytes_are_part n) _ _ _ _ size.later (c.in_err-bytes.ensures.0, short, c.in_err-bytes.ensures.2)))

pub returns : goal.returns
returns c =
    let size = then (begins sized c.clone-ahead.ensures) c.in_ok-size.ensures in
    let (text, p, t) = c.in_ok-bytes.ensures in
    size.reads _ _ (text, (sym p.0, p.1), t)
