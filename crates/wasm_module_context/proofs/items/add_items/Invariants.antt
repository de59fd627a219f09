use Rattle.std.proofs.Common.{◌≡◌, false}
use Rattle.wasm_context.specs.Components.{Components}
use Rattle.wasm_module_context.specs.declared.error.PayloadError.{PayloadError}
use Rattle.wasm_module_context.specs.Items.{AddsItems, FailsItems}
use Rattle.wasm_module_context.proofs.items.add_items.Given as goal

-- What completes the items that are left completes all of them.
abbrev pub invariant-items : goal.invariant-items
invariant-items g l = record {
  open_ : l.items.refused ≡ false;
  adds : (d : Components) → AddsItems g.T.AddToContext.adds g.T.Read.grammar l.items.remaining l.items.reader l.context d
      → AddsItems g.T.AddToContext.adds g.T.Read.grammar l.fn.section.count l.fn.section.reader l.fn.context d;
  fails : (e : PayloadError) → FailsItems g.T.AddToContext.adds g.T.AddToContext.refuses g.T.Read.grammar l.items.remaining l.items.reader l.context e
      → FailsItems g.T.AddToContext.adds g.T.AddToContext.refuses g.T.Read.grammar l.fn.section.count l.fn.section.reader l.fn.context e;
}
