use Rattle.wasm_below.proofs.Ahead.{failed}
use Rattle.wasm_imm.specs.HandlerFaults.{PairFault}
use Rattle.wasm_imm.specs.Handlers.{EncodesPair}
use Rattle.wasm_imm.proofs.HandlerLemmas.{pair_first, pair_second, pair_read}
use Rattle.wasm_imm.proofs.handlers.read_pair.Goals as goal

pub returns-in_err-first : goal.returns-in_err-first
returns-in_err-first c =
    let h = c.in_err-first.ensures in
    failed EncodesPair PairFault _ _ c.from_residual.ensures.1 (pair_first (h.1, h.2))

pub returns-in_err-second : goal.returns-in_err-second
returns-in_err-second c =
    let h = c.in_err-second.ensures in
    failed EncodesPair PairFault _ _ c.from_residual-in_err-second.ensures.1 (pair_second _ _ _ c.in_ok-first.ensures (h.1, h.2))

pub returns : goal.returns
returns c = pair_read _ _ _ _ _ c.in_ok-first.ensures c.in_ok-second.ensures
