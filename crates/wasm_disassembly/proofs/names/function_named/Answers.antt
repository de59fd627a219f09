use Rattle.std.proofs.Common.{List, ℕ, map, string_bytes, ap, ◌∙◌}
use Rattle.wasm_disassembly.specs.Names.{first_named}
use Rattle.wasm_disassembly.proofs.names.function_named.Goals as goal

pub returns : goal.returns
returns c =
    c.first_named.ensures ∙ ap (λ (names : List (List ℕ)). first_named names c.args.name.now)
    (ap (λ names. map string_bytes names) c.as_slice.ensures.value ∙ c.in_ok-names.ensures)
