use Rattle.std.proofs.Common.{false, refl, sym, subst, ◌∙◌}
use Rattle.std.specs.Prelude.{IfErr}
use Rattle.wasm_below.specs.Source.{source_of}
use Rattle.wasm_operators.specs.Expression.{operators}
use Rattle.wasm_check_operators.specs.Language.{rules_of}
use Rattle.wasm_check.specs.Constants.{may_occur}
use Rattle.wasm_check.specs.Typed.{EncodesTyped, Explains}
use Rattle.wasm_check.proofs.Driving.{all_occur, explained_all}
use Rattle.wasm_check.proofs.check.check_expression.Goals as goal

pub returns-clause-whole : goal.returns-clause-whole
returns-clause-whole g c = λ placed encodes.
    let E = g.M.ModuleContext.environment c.args.context.now in
    c.check_operators.ensures.whole placed (subst (λ r. EncodesTyped (rules_of E) E.results (source_of r) placed) (sym (c.new-reader.ensures.reader ∙ c.new_features.ensures)) encodes)
    (all_occur (may_occur false E) (λ op. refl) (operators placed))

pub returns-clause-error : goal.returns-clause-error
returns-clause-error g c =
    let E = g.M.ModuleContext.environment c.args.context.now in
    subst (λ r. IfErr c.check_operators.result (λ e. Explains (rules_of E) E.results r e)) (c.new-reader.ensures.reader ∙ c.new_features.ensures)
    (explained_all (may_occur false E) (rules_of E) E.results c.new-reader.result.reader c.check_operators.result (λ op. refl) c.check_operators.ensures.error)
