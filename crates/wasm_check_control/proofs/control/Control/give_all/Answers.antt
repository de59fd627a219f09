use Rattle.std.proofs.Common.{◌∷◌, [], ap, ◌∙◌}
use Rattle.wasm_typing.specs.Types.{value_type}
use Rattle.wasm_typing.specs.Steps.{receives}
use Rattle.wasm_check_control.proofs.Taking.{more_given}
use Rattle.wasm_check_control.proofs.control.Control.give_all.Goals as goal

pub loop-i-preserved : goal.loop-i-preserved
loop-i-preserved c =
    c.in_ok-give.ensures ∙ ap (λ v. receives (v ∷ []) c.loop-i.self) (c.new.ensures ∙ ap value_type c.index-types-i.is) ∙ ap (receives (value_type _ ∷ [])) c.loop-i.invariant ∙
    more_given value_type c.args.types.now c.loop-i.i _ c.args.self.now c.loop-i-test.true
