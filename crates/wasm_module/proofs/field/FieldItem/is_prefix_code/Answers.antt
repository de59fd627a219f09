use Rattle.wasm_module.proofs.Fields.{field_code}
use Rattle.wasm_module.proofs.field.FieldItem.is_prefix_code.Goals as goal

pub returns : goal.returns
returns c =
    field_code c.value_types.ensures
