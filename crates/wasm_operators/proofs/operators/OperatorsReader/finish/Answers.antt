use Rattle.std.proofs.Common.{sym, subst, ap}
use Rattle.wasm_grammar.specs.Frames.{innermost}
use Rattle.wasm_operators.specs.Reading.{State}
use Rattle.wasm_operators.specs.Single.{FinishesExpression}
use Rattle.wasm_operators.proofs.Ends.{finishes_of}
use Rattle.wasm_operators.proofs.operators.OperatorsReader.finish.Goals as goal

pub returns : goal.returns
returns c =
    let s = c.args.self.now in
    let reader = ap (λ (s : State). s.reader) c.self.view_is in
    finishes_of c.finish_expression.result s
    (subst (FinishesExpression c.finish_expression.result (innermost s.frames)) reader c.finish_expression.ensures)
