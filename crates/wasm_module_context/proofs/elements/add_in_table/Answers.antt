use Rattle.std.proofs.Common.{◌≡◌, true, subst, rules}
use Rattle.wasm_check_control.specs.Environment.{table_of}
use Rattle.wasm_module_context.specs.Constants.{AddsConstant}
use Rattle.wasm_module_context.specs.Parts.{fits}
use Rattle.wasm_module_context.proofs.Adding.{ok_also}
use Rattle.wasm_module_context.proofs.elements.add_in_table.Goals as goal

pub returns-clause-added : goal.returns-clause-added
returns-clause-added c =
    let fitting : fits c.args.context c.args.ty (table_of c.args.table) ≡ true = search rules in
    ok_also _ _ c.add_constant.result (λ new added. (fitting, subst (λ t. AddsConstant t c.args.value c.args.context new) c.address_type.ensures added)) c.add_constant.ensures.added
