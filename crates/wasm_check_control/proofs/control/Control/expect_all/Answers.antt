use Rattle.std.proofs.Common.{◌∷◌, [], Some, sym, ap, ◌∙◌}
use Rattle.wasm_typing.specs.Types.{value_type}
use Rattle.wasm_check_control.specs.State.{taken}
use Rattle.wasm_check_control.proofs.Taking.{more_taken, none_taken}
use Rattle.wasm_check_control.proofs.control.Control.expect_all.Goals as goal

pub returns-then-not-expect : goal.returns-then-not-expect
returns-then-not-expect g c =
    let O = (g.M.ModuleContext.environment c.args.context.now).order in
    none_taken O value_type c.args.types.now c.loop-i.i _ c.args.self.now c.loop-i.self c.loop-i-test.true c.loop-i.invariant
    (ap (λ v. taken O (v ∷ []) c.loop-i.self) (sym (c.new.ensures ∙ ap value_type c.index-types-index.is)) ∙ c.if-not-expect.ensures)

pub loop-i-preserved : goal.loop-i-preserved
loop-i-preserved g c =
    let O = (g.M.ModuleContext.environment c.args.context.now).order in
    more_taken O value_type c.args.types.now c.loop-i.i _ c.args.self.now c.loop-i.self (Some c.expect.new.self) c.loop-i-test.true c.loop-i.invariant
    (ap (λ v. taken O (v ∷ []) c.loop-i.self) (sym (c.new.ensures ∙ ap value_type c.index-types-index.is)) ∙ c.if-not-expect.ensures)
