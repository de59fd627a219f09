use Rattle.std.proofs.Common.{◌≡◌, None, sym, ◌∙◌, rules}
use Rattle.wasm_context.specs.declared.function.Function.{Function}
use Rattle.wasm_context.specs.Faults.{or_else}
use Rattle.wasm_context.specs.Validity.{IsFunction}
use Rattle.wasm_context.proofs.Valid.{pushed, first_none, function_within}
use Rattle.wasm_context.proofs.context.Context.add_function.Goals as goal

pub invariant_of-self : goal.invariant_of-self
invariant_of-self c =
    let none : or_else c.limit_fault-full.result c.use_fault.result ≡ None = search rules in
    let fits = function_within c.self.inside.types c.args.type_index (sym c.use_fault.ensures ∙ first_none _ _ none) in
    record {
      functions = pushed (λ (t : Function). IsFunction c.self.inside.types t.type_index) _ _ _ c.push.result c.push.ensures.added c.push.ensures.unchanged c.self.invariant.functions fits;
      tables = c.self.invariant.tables;
      globals = c.self.invariant.globals;
      tags = c.self.invariant.tags;
      elements = c.self.invariant.elements;
    }
