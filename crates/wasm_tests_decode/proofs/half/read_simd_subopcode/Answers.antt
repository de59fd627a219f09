use Rattle.std.proofs.Common.{Some, subst}
use Rattle.wasm_decode_opcodes.specs.Decoding.{IsAfterCode}
use Rattle.wasm_tests_decode.proofs.After.{after_both}
use Rattle.wasm_tests_decode.proofs.half.read_simd_subopcode.Goals as goal

pub returns-in-Ok : goal.returns-in-Ok
returns-in-Ok c =
    let byte = c.in-Ok-eq253.field-0 in
    subst (λ z. IsAfterCode c.args.start (Some z) c.in-Ok.code c.read_var_u32.new.self) c.in-Ok-eq253.field-0-test
    (after_both c.args.reader.now c.read_u8.new.self c.read_var_u32.new.self c.args.start byte c.in-Ok.code c.requires c.in-Ok-eq253.ensures c.in-Ok.ensures)
