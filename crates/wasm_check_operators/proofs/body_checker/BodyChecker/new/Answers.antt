use Rattle.std.proofs.Common.{◌∷◌, [], ap, ◌∙◌}
use Rattle.wasm_grammar.specs.Role.{block}
use Rattle.wasm_typing.specs.Steps.{of_nest, opened, set_in, started}
use Rattle.wasm_check_control.specs.Environment.{stack_of}
use Rattle.wasm_check_control.specs.SetLocals.{set_now, with_set}
use Rattle.wasm_check_operators.proofs.body_checker.BodyChecker.new.Goals as goal

pub returns-clause-starts : goal.returns-clause-starts
returns-clause-starts g c =
    let frames = c.in_ok-enter.ensures ∙ ap (λ frames. opened (of_nest block) (record { takes = []; leaves = stack_of c.results.result.now }) (set_in frames) ∷ frames) c.new-control.ensures in
    let sets = c.in_ok-open.ensures.opened ∙ ap (λ s. set_now s ∷ s) c.new-locals.ensures in
    ap (λ frames. with_set frames c.open.new.self) frames ∙ ap (with_set (started (stack_of c.results.result.now))) sets ∙ ap started c.results.ensures
