use Rattle.std.proofs.Common.{ap, ◌∙◌, sym}
use Rattle.wasm_encode_view.specs.Bytes.{list_shape}
use Rattle.wasm_encode_view.proofs.Operators.{lists, listed}
use Rattle.wasm_encode_view.proofs.view.has_list.Goals as goal

pub returns : goal.returns
returns c = λ op at same.
    let e = c.is_list_shape.ensures ∙ ap list_shape same in
    (λ yes. lists op at (sym e ∙ yes), λ h. e ∙ listed op at h)
