use Rattle.std.proofs.Common.{◌≤◌, inl, arith}
use Rattle.wasm_below.proofs.Ahead.{fails_as}
use Rattle.wasm_imm.specs.HandlerFaults.{PairFault, IndicesFault}
use Rattle.wasm_imm.specs.Handlers.{EncodesPair, IsHandleAfterByte}
use Rattle.wasm_imm.proofs.HandlerLemmas.{handle_pair}
use Rattle.wasm_imm.proofs.handlers.Handle.read_after_byte.Goals as goal

pub returns-in-Err : goal.returns-in-Err
returns-in-Err c =
    let byte = c.args.byte in
    let low : byte ≤ 0 = omega (arith, c.if-byte-eq0.true) in
    fails_as EncodesPair (IsHandleAfterByte byte) PairFault (IndicesFault 0 byte) (handle_pair byte c.if-byte-eq0.true) (λ f. inl (low, f)) c.in-Err.ensures
