use Rattle.wasm_write_grammars.proofs.Owing.{given}
use Rattle.wasm_encode_sections.specs.ElementReasons.{ListedReason}
use Rattle.wasm_encode_sections.proofs.ElementSteps.{functions_fail, functions_written, type_fails, values_fail, values_written}
use Rattle.wasm_encode_sections.proofs.elements.append_listed.Goals as goal

pub returns-in_err-append_function_kind-in-Functions : goal.returns-in_err-append_function_kind-in-Functions
returns-in_err-append_function_kind-in-Functions g c =
    let (extends, why) = c.in_err-append_function_kind-in-Functions.ensures in
    given (ListedReason (g.C.Write.reason c.args.features) c.args.flags) _ c.from_residual.ensures.1 extends (λ known. absurd (why known).reason)

pub returns-in_err-append_items-in-Functions : goal.returns-in_err-append_items-in-Functions
returns-in_err-append_items-in-Functions g c =
    functions_fail (g.C.Write.grammar c.args.features) c.args.flags c.in-Functions.indices c.in-Functions.is c.requires (g.C.Write.reason c.args.features)
    c.in_ok-append_function_kind-in-Functions.ensures c.as_slice.ensures _ c.from_residual-in_err-append_items-in-Functions.ensures.1 c.in_err-append_items-in-Functions.ensures

pub returns-in_ok-append_items-in-Functions : goal.returns-in_ok-append_items-in-Functions
returns-in_ok-append_items-in-Functions g c =
    functions_written (g.C.Write.grammar c.args.features) c.args.flags c.in-Functions.indices c.in-Functions.is c.requires c.in_ok-append_function_kind-in-Functions.ensures
    c.as_slice.ensures c.in_ok-append_items-in-Functions.ensures

pub returns-in_err-append_type-in-Expressions : goal.returns-in_err-append_type-in-Expressions
returns-in_err-append_type-in-Expressions g c =
    type_fails (g.C.Write.grammar c.args.features) c.args.flags c.in-Expressions.ty c.in-Expressions.values c.in-Expressions.is c.requires (g.C.Write.reason c.args.features) _
    c.from_residual-in_err-append_type-in-Expressions.ensures.1 c.in_err-append_type-in-Expressions.ensures

pub returns-in_err-append_items-in-Expressions : goal.returns-in_err-append_items-in-Expressions
returns-in_err-append_items-in-Expressions g c =
    values_fail (g.C.Write.grammar c.args.features) c.args.flags c.in-Expressions.ty c.in-Expressions.values c.in-Expressions.is c.requires (g.C.Write.reason c.args.features)
    c.in_ok-append_type-in-Expressions.ensures c.as_slice-in-Expressions.ensures _ c.from_residual-in_err-append_items-in-Expressions.ensures.1 c.in_err-append_items-in-Expressions.ensures

pub returns-in_ok-append_items-in-Expressions : goal.returns-in_ok-append_items-in-Expressions
returns-in_ok-append_items-in-Expressions g c =
    values_written (g.C.Write.grammar c.args.features) c.args.flags c.in-Expressions.ty c.in-Expressions.values c.in-Expressions.is c.requires
    c.in_ok-append_type-in-Expressions.ensures c.as_slice-in-Expressions.ensures c.in_ok-append_items-in-Expressions.ensures
