use Rattle.std.proofs.Common.{inl}
use Rattle.wasm_below.proofs.Ahead.{fails_as}
use Rattle.wasm_imm.specs.HandlerFaults.{PairFault, IndicesFault}
use Rattle.wasm_imm.specs.Handlers.{EncodesPair, IsCatchAfterByte}
use Rattle.wasm_imm.proofs.HandlerLemmas.{catch_pair}
use Rattle.wasm_imm.proofs.handlers.Catch.read_after_byte.Goals as goal

pub returns-in-Err : goal.returns-in-Err
returns-in-Err c =
    let byte = c.args.byte in
    let low = c.if-byte-le1.true in
    fails_as EncodesPair (IsCatchAfterByte byte) PairFault (IndicesFault 1 byte) (catch_pair byte low) (λ f. inl (low, f)) c.in-Err.ensures
