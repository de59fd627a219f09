use Rattle.std.proofs.Common.{◌≡◌, map, ap, ◌∙◌}
use Rattle.std.specs.String.{string_bytes}
use Rattle.wasm_context.specs.Names.{has_name}
use Rattle.wasm_context.proofs.Naming.{names_have}
use Rattle.wasm_context.proofs.names.Names.contains.Goals as goal

pub returns : goal.returns
returns c =
    let texts = c.self.inside.names.keys in
    let same : map string_bytes texts ≡ c.args.self.now = cc c.self.view_is in
    c.contains.ensures ∙ names_have texts c.args.name.now ∙ ap (λ names. has_name names c.args.name.now) same
