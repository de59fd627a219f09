use Rattle.std.proofs.Common.{OnOk, map, sym, ap, subst, ◌≡◌, ◌∙◌}
use Rattle.std.specs.String.{string_bytes}
use Rattle.wasm_context.specs.Names.{with_name}
use Rattle.wasm_context.proofs.Naming.{names_with}
use Rattle.wasm_context.proofs.names.Names.insert.Goals as goal
use Rattle.wasm_context.proofs.names.Names.insert.Goals.{in-Ok-insert, in-Err}

pub returns-clause-added : goal.returns-clause-added
returns-clause-added c =
    let texts = c.self.inside.names.keys in
    let same : map string_bytes texts ≡ c.args.self.now = cc c.self.view_is in
    elim c.match-insert.branch [
      | in-Ok-insert w ↦ subst (λ r. OnOk r (map string_bytes c.insert.new.self.keys ≡ with_name c.args.self.now c.args.name.now)) (sym w.result-is)
          (ap (map string_bytes) w.in-Ok-insert.ensures.keys ∙ names_with texts c.in-Ok.name ∙ ap (with_name (map string_bytes texts)) c.in-Ok.ensures.ok ∙ ap (λ names. with_name names c.args.name.now) same)
      | in-Err w ↦ subst (λ r. OnOk r (map string_bytes c.insert.new.self.keys ≡ with_name c.args.self.now c.args.name.now)) (sym w.result-is) tt
    ]
