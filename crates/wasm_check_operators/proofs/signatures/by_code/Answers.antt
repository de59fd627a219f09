use Rattle.std.proofs.Common.{sym, subst}
use Rattle.wasm_signatures.specs.Own.{operator_typing}
use Rattle.wasm_check_operators.specs.Language.{Follows}
use Rattle.wasm_check_operators.proofs.ByCode.{of_row}
use Rattle.wasm_check_operators.proofs.signatures.by_code.Goals as goal

pub returns : goal.returns
returns g c =
    let E = g.M.ModuleContext.environment c.args.context.now in
    subst (λ r. Follows E r c.args.control.now c.by_row.result c.by_row.new.control)
    (sym (of_row c.args.is_64 c.row_at.result (operator_typing c.args.op.now) c.requires.determined (c.row_at.ensures c.args.op.now c.requires.opcode.0 c.requires.opcode.1))) c.by_row.ensures
