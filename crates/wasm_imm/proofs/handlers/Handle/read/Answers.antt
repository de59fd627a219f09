use Rattle.std.proofs.Common.{◌≤◌, ◌++◌, ◌∷◌, ap, ◌∙◌, arith}
use Rattle.wasm_below.proofs.Ahead.{stays, advances}
use Rattle.wasm_below.proofs.TakesLemmas.{takes_then}
use Rattle.wasm_imm.specs.HandlerFaults.{HandleFault}
use Rattle.wasm_imm.specs.Handlers.{EncodesHandle}
use Rattle.wasm_imm.proofs.HandlerLemmas.{handle_byte_fails, handle_indices_fail}
use Rattle.wasm_imm.proofs.handlers.Handle.read.Goals as goal

pub returns-in_err-byte : goal.returns-in_err-byte
returns-in_err-byte c =
    let h = c.in_err-byte.ensures in
    stays EncodesHandle HandleFault _ c.clone-ahead.ensures c.from_residual.ensures.1 (handle_byte_fails (h.1, h.2))

pub returns-in_err-handle : goal.returns-in_err-handle
returns-in_err-handle c =
    let most : c.in_ok-byte.byte ≤ 1 = omega arith in
    stays EncodesHandle HandleFault _ c.clone-ahead.ensures c.from_residual-in_err-handle.ensures.1
    (handle_indices_fail _ _ _ c.in_ok-byte.ensures most c.in_err-handle.ensures)

pub returns : goal.returns
returns c =
    let b = c.in_ok-byte.ensures in
    let i = c.in_ok-handle.ensures in
    advances EncodesHandle c.clone-ahead.ensures (
      b.0 ++ i.0,
      (i.0, ap (λ z. z ++ i.0) b.1.0 ∙ ap (λ z. z ∷ i.0) i.1.0, i.1.1),
      takes_then c.clone-ahead.result c.read_u8.new.self c.read_after_byte.new.reader b.0 i.0 b.2 i.2,
    )
