use Rattle.std.proofs.Common.{◌≡◌, None, sym, ◌∙◌, rules}
use Rattle.wasm_externals.specs.declared.tag_type.TagType.{TagType}
use Rattle.wasm_context.specs.Faults.{or_else}
use Rattle.wasm_context.specs.Validity.{IsTag}
use Rattle.wasm_context.proofs.Valid.{pushed, first_none, tag_within}
use Rattle.wasm_context.proofs.context.Context.add_tag.Goals as goal

pub invariant_of-self : goal.invariant_of-self
invariant_of-self c =
    let none : or_else c.limit_fault-full.result c.tag_use_fault.result ≡ None = search rules in
    let fits = tag_within c.self.inside.types c.args.ty.func_type_idx (sym c.tag_use_fault.ensures ∙ first_none _ _ none) in
    record {
      functions = c.self.invariant.functions;
      tables = c.self.invariant.tables;
      globals = c.self.invariant.globals;
      tags = pushed (λ (t : TagType). IsTag c.self.inside.types t.func_type_idx) _ _ _ c.push.result c.push.ensures.added c.push.ensures.unchanged c.self.invariant.tags fits;
      elements = c.self.invariant.elements;
    }
