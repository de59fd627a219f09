use Rattle.std.proofs.Common.{rules, refl, ap}
use Rattle.wasm_context.specs.Environment.{environment_of}
use Rattle.wasm_validation.specs.Valid.{Stage}
use Rattle.wasm_validation.proofs.Untyped.{untyped_function}
use Rattle.wasm_validation.proofs.modules.check_entry.Goals as goal

pub returns-in-Err-clause-refused : goal.returns-in-Err-clause-refused
returns-in-Err-clause-refused c =
    let of_body = rw c.clone.ensures at c.in-Err.ensures.error in
    let of_whole = rw c.clone.ensures at c.in-Err.ensures.whole in
    let same = ap (λ (s : Stage). s.context) c.stage.view_is in
    let explained = rw same at of_body in
    let whole = rw same at of_whole in
    let none = untyped_function (environment_of c.args.stage.context) c.args.stage.next c.args.body c.in-Some.ty.params.now c.in-Some.ty.results.now c.in-Err.error (search rules) whole in
    (search rules, search rules, refl, none, (c.in-Some.ty.params.now, c.in-Some.ty.results.now, search rules, explained))
