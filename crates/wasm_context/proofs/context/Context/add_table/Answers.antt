use Rattle.std.proofs.Common.{◌≡◌, length, None, rules}
use Rattle.wasm_externals.specs.declared.table_type.TableType.{TableType}
use Rattle.wasm_context.specs.Faults.{or_else, heap_fault}
use Rattle.wasm_subtypes.specs.Composites.{HeapWithin}
use Rattle.wasm_context.proofs.Valid.{pushed, first_none, nothing_first, heap_within}
use Rattle.wasm_context.proofs.context.Context.add_table.Goals as goal

pub invariant_of-self : goal.invariant_of-self
invariant_of-self c =
    let none : or_else c.limit_fault-full.result (or_else c.heap_fault-heap.result c.table_limits_fault.result) ≡ None = search rules in
    let nothing : c.heap_fault-heap.result ≡ None = nothing_first _ _ (first_none _ _ none) in
    let same : heap_fault (length c.self.inside.types) c.args.ty.element_type.heap_type ≡ None = search rules in
    let fits = heap_within (length c.self.inside.types) c.args.ty.element_type.heap_type same in
    record {
      functions = c.self.invariant.functions;
      tables = pushed (λ (t : TableType). HeapWithin (length c.self.inside.types) t.element_type.heap_type) _ _ _ c.push.result c.push.ensures.added c.push.ensures.unchanged c.self.invariant.tables fits;
      globals = c.self.invariant.globals;
      tags = c.self.invariant.tags;
      elements = c.self.invariant.elements;
    }
