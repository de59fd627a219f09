-- A body that is rejected is not typed.
use Rattle.std.proofs.Common.{◌≡◌, ◌≢◌, ℕ, List, [], Option, Some, None, sym, subst, ap, ◌∙◌}
use Rattle.wasm_below.specs.declared.types.ValType.{ValType}
use Rattle.wasm_below.specs.Source.{Reader, source_of}
use Rattle.wasm_operators.specs.Expression.{Placed}
use Rattle.wasm_operators.specs.Locals.{Declaration}
use Rattle.wasm_typing.specs.Types.{Stack, FunctionType}
use Rattle.wasm_check_control.specs.Environment.{Environment, stack_of}
use Rattle.wasm_check.specs.declared.error.CheckError.{CheckError}
use Rattle.wasm_check.specs.declared.error.CheckError.TheVariants as check
use Rattle.wasm_check.specs.Bodies.{IsTypedBody, EncodesTypedBody}
use Rattle.wasm_validation.specs.Valid.{IsTypedFunction}
use Rattle.wasm_validation.proofs.Stacks.{same_types}

abbrev takes_of : Option FunctionType → Stack
takes_of None = []
takes_of (Some f) = f.takes

abbrev leaves_of : Option FunctionType → Stack
leaves_of None = []
leaves_of (Some f) = f.leaves

pub untyped_function : (E : Environment) (x : ℕ) (body : Reader) (params results : List ValType) (e : CheckError) →
    E.functions x ≡ Some (record { takes = stack_of params; leaves = stack_of results }) →
    ((ds : List Declaration) (placed : Placed) → EncodesTypedBody E params results (source_of body) ds placed → e ≡ check.Memory) →
    e ≢ check.Memory → IsTypedFunction E x body → ⊥
untyped_function E x body params results e is whole known (ps, rs, (low, is2), typed) =
    let both = sym is2 ∙ is in
    let same = same_types ps params (ap takes_of both) in
    let other = same_types rs results (ap leaves_of both) in
    let here : IsTypedBody E params results (source_of body) = subst (λ l. IsTypedBody E l results (source_of body)) same (subst (λ l. IsTypedBody E ps l (source_of body)) other typed) in
    known (whole here.declarations here.placed (here.encodes, here.may_declare, (here.tree, here.only.0, here.typed)))
