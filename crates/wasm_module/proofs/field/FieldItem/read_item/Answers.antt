use Rattle.wasm_below.specs.Source.{EndFault, IsByte}
use Rattle.wasm_below.specs.TypeEncoding.{ValTypeFault}
use Rattle.wasm_module.specs.Imports.{SomeOf}
use Rattle.wasm_module.specs.Types.{IsStorage, IsField, FieldFault}
use Rattle.wasm_below.proofs.Ahead.{first_fails, second_fails, failed}
use Rattle.wasm_module.proofs.Fields.{storage_code}
use Rattle.wasm_module.proofs.Sequences.{then_read, some_read, some_refused}
use Rattle.wasm_module.proofs.field.FieldItem.read_item.Goals as goal

pub returns-in_err-skip_storage : goal.returns-in_err-skip_storage
returns-in_err-skip_storage c =
    let h = c.in_err-skip_storage.ensures in
    failed IsField FieldFault _ _ c.from_residual.ensures.1
    (first_fails IsStorage (λ storage. SomeOf IsByte) ValTypeFault (λ storage. EndFault) (h.1, h.2))

pub returns-in_err-read_u8 : goal.returns-in_err-read_u8
returns-in_err-read_u8 c =
    let h = c.in_err-read_u8.ensures in
    failed IsField FieldFault _ _ c.from_residual-in_err-read_u8.ensures.1
    (second_fails IsStorage (λ storage. SomeOf IsByte) ValTypeFault (λ storage. EndFault) (storage_code c.value_types.ensures) c.in_ok-skip_storage.ensures
    (some_refused IsByte EndFault (h.1, h.2)))

pub returns : goal.returns
returns c =
    then_read IsStorage (λ storage. SomeOf IsByte) {y = tt} c.in_ok-skip_storage.ensures (some_read IsByte c.in_ok-read_u8.ensures)
