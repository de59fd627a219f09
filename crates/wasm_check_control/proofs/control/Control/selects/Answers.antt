use Rattle.std.proofs.Common.{◌≡◌, ◌∷◌, [], Option, Some, None, refl, ap, ◌∙◌}
use Rattle.std.specs.Option.{option_map}
use Rattle.wasm_typing.specs.declared.value_type.ValueType.{ValueType}
use Rattle.wasm_typing.specs.Steps.{receives}
use Rattle.wasm_check_control.proofs.Selects.{selected}
use Rattle.wasm_check_control.proofs.control.Control.selects.Goals as goal

none_of : (o : Option ValueType) → ((t : ValueType) → o ≡ Some t → ⊥) → o ≡ None
none_of None n = refl
none_of (Some t) n = absurd (n t refl)

pub returns-in_default-select_type : goal.returns-in_default-select_type
returns-in_default-select_type g c =
    selected (g.M.ModuleContext.environment c.args.context.now).order c.args.self.now c.expect.new.self c.take.new.self c.take-2.new.self c.in-Some.second c.in-Some-take.first c.select_type.result
    c.if-not-expect.ensures c.in-Some.ensures c.in-Some-take.ensures c.select_type.ensures ∙
    ap (option_map (λ (t : ValueType). receives (t ∷ []) c.take-2.new.self)) (none_of c.select_type.result c.in_default-select_type.not-Some)
