use Rattle.std.proofs.Common.{◌≡◌, false}
use Rattle.wasm_below.specs.declared.types.ValType.TheVariants as value
use Rattle.wasm_constants.specs.Constants.{const_expr}
use Rattle.wasm_context.specs.Components.{Components}
use Rattle.wasm_module_context.specs.declared.error.PayloadError.{PayloadError}
use Rattle.wasm_module_context.specs.Constants.{AddsConstant, FailsConstant}
use Rattle.wasm_module_context.specs.Items.{AddsItems, FailsItems}
use Rattle.wasm_module_context.proofs.expressions.add_expressions.Given as goal

-- What completes the expressions that are left completes all of them.
abbrev pub invariant-items : goal.invariant-items
invariant-items l = record {
  open_ : l.items.refused ≡ false;
  adds : (d : Components) → AddsItems (AddsConstant (value.Ref l.fn.ty)) const_expr l.items.remaining l.items.reader l.context d
      → AddsItems (AddsConstant (value.Ref l.fn.ty)) const_expr l.fn.section.count l.fn.section.reader l.fn.context d;
  fails : (e : PayloadError) → FailsItems (AddsConstant (value.Ref l.fn.ty)) (λ r c at e. FailsConstant (value.Ref l.fn.ty) r c e) const_expr l.items.remaining l.items.reader l.context e
      → FailsItems (AddsConstant (value.Ref l.fn.ty)) (λ r c at e. FailsConstant (value.Ref l.fn.ty) r c e) const_expr l.fn.section.count l.fn.section.reader l.fn.context e;
}
