use Rattle.std.proofs.Common.{ap, ◌∙◌, ◌++◌}
use Rattle.wasm_below.specs.declared.types.ValType.TheVariants as value
use Rattle.wasm_encode_immediates.specs.TypeBytes.{value_type_bytes}
use Rattle.wasm_encode_immediates.proofs.TypeTexts.{value_written}
use Rattle.wasm_encode_sections.proofs.value_types.RefTypeWrite.append_to.Goals as goal

pub returns-in-Ok : goal.returns-in-Ok
returns-in-Ok c =
    let whole = c.write_value_type.ensures.bytes ∙ ap (λ z. z ++ value_type_bytes (value.Ref c.args.self.now)) c.reserve.ensures.items in
    let a = value_written (value.Ref c.args.self.now) _ _ c.write_value_type.ensures.fits whole in
    record { text = a.text; appended = a.appended; encodes = λ place. a.encodes; shortest = λ place. a.shortest }
