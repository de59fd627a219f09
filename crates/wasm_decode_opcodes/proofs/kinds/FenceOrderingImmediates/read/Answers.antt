use Rattle.std.proofs.Common.{◌-◌, arith}
use Rattle.wasm_decode_opcodes.proofs.SequenceLemmas.{fence_failed}
use Rattle.wasm_decode_opcodes.proofs.kinds.FenceOrderingImmediates.read.Goals as goal

pub returns-in-Err : goal.returns-in-Err
returns-in-Err c =
    let begun = c.original_position.result - (c.current_position.result - c.args.start) in
    fence_failed c.args.start begun c.in-Err.e c.args.reader.now c.read_fence.new.reader (omega (arith, c.requires, c.original_position.ensures, c.current_position.ensures)) c.requires c.in-Err.ensures
