use Rattle.std.proofs.Common.{arith}
use Rattle.wasm_decode.proofs.DecodingLemmas.{is_after_code, refuses_subopcode}
use Rattle.wasm_decode.proofs.after.subopcode.Goals as goal

pub returns-in-Ok-clause-read : goal.returns-in-Ok-clause-read
returns-in-Ok-clause-read c =
    (is_after_code c.args.start c.args.prefix c.in-Ok.code c.args.reader.now c.read_var_u32.new.self c.requires.after c.in-Ok.ensures).1

pub returns-in-Err-clause-refuses : goal.returns-in-Err-clause-refuses
returns-in-Err-clause-refuses c k =
    refuses_subopcode k c.args.start c.args.prefix c.in-Err.e c.args.reader.now c.read_var_u32.new.self c.rewind.new.self (omega arith) c.requires.prefix
    c.requires.after c.in-Err.ensures c.rewind.ensures
