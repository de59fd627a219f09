use Rattle.std.proofs.Common.{sym, subst}
use Rattle.wasm_context.specs.Components.{Components, with_types}
use Rattle.wasm_context.specs.Validity.{IsWellFormed}
use Rattle.wasm_context.proofs.Valid.{types_later}
use Rattle.wasm_context.proofs.context.Context.add_group.Goals as goal

pub invariant_of-result : goal.invariant_of-result
invariant_of-result c =
    let old : Components = record {
      types = c.self.inside.types;
      functions = c.self.inside.functions.items;
      tables = c.self.inside.tables.items;
      memories = c.self.inside.memories.items;
      globals = c.self.inside.globals.items;
      tags = c.self.inside.tags.items;
      elements = c.self.inside.elements.items;
      data_segments = c.self.inside.data_segments;
      exports = c.self.inside.exports;
    } in
    subst (λ types. IsWellFormed (with_types old types)) (sym c.in-Ok.ensures.added.all) (types_later old _ c.self.invariant)
