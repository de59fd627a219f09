use Rattle.std.proofs.Common.{ap, ◌∙◌, ◌++◌}
use Rattle.wasm_encode_immediates.specs.TypeBytes.{value_type_bytes}
use Rattle.wasm_encode_immediates.proofs.TypeTexts.{value_written}
use Rattle.wasm_write_grammars.proofs.Owing.{of_part}
use Rattle.wasm_encode_sections.proofs.value_types.ValTypeWrite.append_to.Goals as goal

pub returns-in-Ok : goal.returns-in-Ok
returns-in-Ok c =
    let whole = c.write_value_type.ensures.bytes ∙ ap (λ z. z ++ value_type_bytes c.args.self.now) c.reserve.ensures.items in
    of_part (value_written c.args.self.now _ _ c.write_value_type.ensures.fits whole)
