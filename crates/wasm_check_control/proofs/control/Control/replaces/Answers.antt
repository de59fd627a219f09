use Rattle.std.proofs.Common.{◌∷◌, [], Some, sym, ap, ◌∙◌}
use Rattle.std.specs.Option.{option_map, option_and_then}
use Rattle.wasm_typing.specs.Steps.{receives}
use Rattle.wasm_check_control.specs.Environment.{stack_of}
use Rattle.wasm_check_control.specs.State.{taken}
use Rattle.wasm_check_control.proofs.Taking.{taken-append, receives-append}
use Rattle.wasm_check_control.proofs.Tops.{taken_fixed}
use Rattle.wasm_check_control.proofs.control.Control.replaces.Goals as goal

pub returns-then-not-expect : goal.returns-then-not-expect
returns-then-not-expect g c =
    let O = (g.M.ModuleContext.environment c.args.context.now).order in
    let below = stack_of c.args.below.now in
    taken_fixed O (c.args.from ∷ below) (c.args.to ∷ below) c.args.self.now ∙
    ap (option_map (receives (c.args.to ∷ below))) (taken-append O (c.args.from ∷ []) below c.args.self.now ∙ ap (option_and_then (taken O below)) c.if-not-expect.ensures)

pub returns-then-not-expect_all : goal.returns-then-not-expect_all
returns-then-not-expect_all g c =
    let O = (g.M.ModuleContext.environment c.args.context.now).order in
    let below = stack_of c.args.below.now in
    taken_fixed O (c.args.from ∷ below) (c.args.to ∷ below) c.args.self.now ∙
    ap (option_map (receives (c.args.to ∷ below))) (taken-append O (c.args.from ∷ []) below c.args.self.now ∙ ap (option_and_then (taken O below)) c.if-not-expect.ensures ∙
    c.if-not-expect_all.ensures)

pub returns : goal.returns
returns g c =
    let O = (g.M.ModuleContext.environment c.args.context.now).order in
    let below = stack_of c.args.below.now in
    taken_fixed O (c.args.from ∷ below) (c.args.to ∷ below) c.args.self.now ∙
    ap (option_map (receives (c.args.to ∷ below))) (taken-append O (c.args.from ∷ []) below c.args.self.now ∙ ap (option_and_then (taken O below)) c.if-not-expect.ensures ∙
    c.if-not-expect_all.ensures) ∙
    ap (λ fs. Some fs) (sym (c.in_ok-give.ensures ∙ ap (receives (c.args.to ∷ [])) c.in_ok-give_all.ensures ∙ receives-append (c.args.to ∷ []) below c.expect_all.new.self))
