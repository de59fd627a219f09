use Rattle.std.proofs.Common.{◌≤◌, ◌++◌, ◌∷◌, ap, ◌∙◌, arith}
use Rattle.wasm_below.proofs.Ahead.{stays, advances}
use Rattle.wasm_below.proofs.TakesLemmas.{takes_then}
use Rattle.wasm_imm.specs.HandlerFaults.{CatchFault}
use Rattle.wasm_imm.specs.Handlers.{EncodesCatch}
use Rattle.wasm_imm.proofs.HandlerLemmas.{catch_byte_fails, catch_indices_fail}
use Rattle.wasm_imm.proofs.handlers.Catch.read.Goals as goal

pub returns-in_err-byte : goal.returns-in_err-byte
returns-in_err-byte c =
    let h = c.in_err-byte.ensures in
    stays EncodesCatch CatchFault _ c.clone-ahead.ensures c.from_residual.ensures.1 (catch_byte_fails (h.1, h.2))

pub returns-in_err-catch : goal.returns-in_err-catch
returns-in_err-catch c =
    let most : c.in_ok-byte.byte ≤ 3 = omega arith in
    stays EncodesCatch CatchFault _ c.clone-ahead.ensures c.from_residual-in_err-catch.ensures.1
    (catch_indices_fail _ _ _ c.in_ok-byte.ensures most c.in_err-catch.ensures)

pub returns : goal.returns
returns c =
    let b = c.in_ok-byte.ensures in
    let i = c.in_ok-catch.ensures in
    advances EncodesCatch c.clone-ahead.ensures (
      b.0 ++ i.0,
      (i.0, ap (λ z. z ++ i.0) b.1.0 ∙ ap (λ z. z ∷ i.0) i.1.0, i.1.1),
      takes_then c.clone-ahead.result c.read_u8.new.self c.read_after_byte.new.reader b.0 i.0 b.2 i.2,
    )
