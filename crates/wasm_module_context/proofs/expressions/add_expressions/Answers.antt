use Rattle.std.proofs.Common.{◌≡◌, Ok, Err, rules}
use Rattle.wasm_below.specs.declared.types.ValType.TheVariants as value
use Rattle.wasm_constants.specs.Constants.{const_expr}
use Rattle.wasm_module_context.specs.Constants.{AddsConstant, FailsConstant}
use Rattle.wasm_module_context.proofs.Adding.{adds_more, fails_later, fails_here, fails_read}
use Rattle.wasm_module_context.proofs.expressions.add_expressions.Goals as goal

pub items-preserved : goal.items-preserved
items-preserved c =
    let old = c.items.items in
    let new = c.next.new.self in
    let item : c.in-Some.item ≡ Ok (c.in-Ok.field-0-0, c.in-Ok.part) = search rules in
    let steps = rw item at c.in-Some.ensures.steps in
    record {
      open_ = steps.1.1;
      adds = λ d more. c.items.invariant.adds d (adds_more (AddsConstant (value.Ref c.args.ty)) (λ r k at e. FailsConstant (value.Ref c.args.ty) r k e) const_expr old.remaining new.remaining old.reader new.reader
          c.items.context c.in-Ok-add_constant.more d c.in-Ok.part steps.1.2 steps.1.3 c.in-Ok-add_constant.ensures.added more);
      fails = λ e more. c.items.invariant.fails e (fails_later (AddsConstant (value.Ref c.args.ty)) (λ r k at e. FailsConstant (value.Ref c.args.ty) r k e) const_expr old.remaining new.remaining old.reader new.reader
          c.items.context c.in-Ok-add_constant.more c.in-Ok.part e steps.1.2 steps.1.3 c.in-Ok-add_constant.ensures.added more);
    }

pub returns-in-Err-add_constant-clause-refused : goal.returns-in-Err-add_constant-clause-refused
returns-in-Err-add_constant-clause-refused c =
    let old = c.items.items in
    let new = c.next.new.self in
    let item : c.in-Some.item ≡ Ok (c.in-Ok.field-0-0, c.in-Ok.part) = search rules in
    let steps = rw item at c.in-Some.ensures.steps in
    c.items.invariant.fails c.in-Err-add_constant.e (fails_here (AddsConstant (value.Ref c.args.ty)) (λ r k at e. FailsConstant (value.Ref c.args.ty) r k e) const_expr old.remaining new.remaining old.reader new.reader
    c.items.context c.in-Ok.part c.in-Ok.field-0-0 c.in-Err-add_constant.e steps.1.2 steps.1.3 steps.0 c.in-Err-add_constant.ensures.refused)

pub returns-in-Err-clause-refused : goal.returns-in-Err-clause-refused
returns-in-Err-clause-refused c =
    let item : c.in-Some.item ≡ Err c.in-Err.e = search rules in
    let steps = rw item at c.in-Some.ensures.steps in
    c.items.invariant.fails _ (fails_read (AddsConstant (value.Ref c.args.ty)) (λ r k at e. FailsConstant (value.Ref c.args.ty) r k e) const_expr c.items.items.remaining c.items.items.reader c.items.context c.in-Err.e steps.2)
