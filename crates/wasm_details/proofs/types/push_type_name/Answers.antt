use Rattle.std.proofs.Common.{◌≡◌, ◌∙◌, None, rules, arith}
use Rattle.std.proofs.lemmas.Str.Pattern.{strip_prefix_char}
use Rattle.wasm_text.specs.Values.{value_type_text}
use Rattle.wasm_details.proofs.Spaced.{spaced_type}
use Rattle.wasm_details.proofs.types.push_type_name.Goals as goal

pub returns : goal.returns
returns c =
    let is : c.as_str.result.now ≡ value_type_text c.args.ty = search rules in
    let s = spaced_type c.args.ty in
    absurd (strip_prefix_char 32 c.as_str.result.now None c.in-None.ensures.cases (omega arith) s.0 (is ∙ s.1))
