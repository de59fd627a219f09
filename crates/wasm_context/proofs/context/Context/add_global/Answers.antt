use Rattle.std.proofs.Common.{◌≡◌, length, None, rules}
use Rattle.wasm_externals.specs.declared.global_type.GlobalType.{GlobalType}
use Rattle.wasm_context.specs.Faults.{or_else, value_fault}
use Rattle.wasm_subtypes.specs.Composites.{ValueWithin}
use Rattle.wasm_context.proofs.Valid.{pushed, first_none, nothing_first, value_within}
use Rattle.wasm_context.proofs.context.Context.add_global.Goals as goal

pub invariant_of-self : goal.invariant_of-self
invariant_of-self c =
    let none : or_else c.limit_fault-full.result (or_else c.value_fault-value.result c.sharing_fault-shared.result) ≡ None = search rules in
    let nothing : c.value_fault-value.result ≡ None = nothing_first _ _ (first_none _ _ none) in
    let same : value_fault (length c.self.inside.types) c.args.ty.content_type ≡ None = search rules in
    let fits = value_within (length c.self.inside.types) c.args.ty.content_type same in
    record {
      functions = c.self.invariant.functions;
      tables = c.self.invariant.tables;
      globals = pushed (λ (t : GlobalType). ValueWithin (length c.self.inside.types) t.content_type) _ _ _ c.push.result c.push.ensures.added c.push.ensures.unchanged c.self.invariant.globals fits;
      tags = c.self.invariant.tags;
      elements = c.self.invariant.elements;
    }
