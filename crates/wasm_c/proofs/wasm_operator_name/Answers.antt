use Rattle.std.proofs.Common.{◌≡◌, Some, ap, subst, ◌∙◌}
use Rattle.wasm_operators.specs.instr.Row.{name_of}
use Rattle.wasm_view.specs.Names.{name_at}
use Rattle.wasm_view.specs.declared.view.WasmOperator.{WasmOperator}
use Rattle.wasm_c.specs.Texts.{ReturnsText}
use Rattle.wasm_c.proofs.wasm_operator_name.Goals as goal

pub returns-clause-named : goal.returns-clause-named
returns-clause-named c = λ op at is.
    let same : c.name_at.result.now ≡ name_of op =
    c.name_at.ensures ∙ ap (λ (o : WasmOperator). name_at o.opcode o.shape) is ∙ c.names.ensures op at in
    subst (λ text. ReturnsText (Some text) c.args.name.now c.write_one.result c.write_one.new.text) same c.write_one.ensures

pub returns-clause-numbers : goal.returns-clause-numbers
returns-clause-numbers c =
    subst (λ text. ReturnsText (Some text) c.args.name.now c.write_one.result c.write_one.new.text) c.name_at.ensures c.write_one.ensures
