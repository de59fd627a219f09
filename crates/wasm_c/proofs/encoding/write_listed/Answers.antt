use Rattle.std.proofs.Common.{ℕ, List, subst}
use Rattle.wasm_operators.specs.instr.Encoding.{EncodesOperator}
use Rattle.wasm_c.specs.Encodings.{WritesFound}
use Rattle.wasm_c.proofs.Encoded.{listed_read, listed_refused}
use Rattle.wasm_c.proofs.encoding.write_listed.Goals as goal

pub returns-in-Ok : goal.returns-in-Ok
returns-in-Ok c =
    listed_read c.args.view.now c.in-Ok.op c.write_found.result c.args.bytes.now c.args.offset c.args.features _ _ _ _ c.in-Ok.ensures
    (subst (λ f. (text : List ℕ) → EncodesOperator f text c.in-Ok.op → WritesFound c.write_found.result c.args.view.now c.in-Ok.op f c.args.length.now c.write_found.new.length c.args.out.now c.write_found.new.out)
    c.requires c.write_found.ensures)

pub returns-in-Err : goal.returns-in-Err
returns-in-Err c = listed_refused c.args.view.now c.in-Err.refused c.args.bytes.now c.args.offset c.args.features _ _ c.in-Err.ensures
