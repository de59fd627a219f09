use Rattle.std.proofs.Common.{◌≡◌, sym, ap, ◌∙◌}
use Rattle.wasm_payloads.specs.declared.parser.ParserState.TheVariants as phase
use Rattle.wasm_payloads.specs.Parsing.{Parsing}
use Rattle.wasm_payloads.proofs.NextBody.{body_steps, body_progress}
use Rattle.wasm_payloads.proofs.parser.ParserIterator.next.Goals as goal

pub returns-in-Bodies-clause-steps : goal.returns-in-Bodies-clause-steps
returns-in-Bodies-clause-steps c =
    let is : c.args.self.now.state ≡ phase.Bodies c.in-Bodies.remaining c.in-Bodies.size = sym (ap (λ (p : Parsing). p.state) c.self.view_is) ∙ c.in-Bodies.is in
    body_steps c.args.self.now c.next_body.new.self c.next_body.result is c.next_body.ensures.ok c.next_body.ensures.err c.next_body.ensures.ended

pub returns-in-Bodies-clause-goes : goal.returns-in-Bodies-clause-goes
returns-in-Bodies-clause-goes c =
    let is : c.args.self.now.state ≡ phase.Bodies c.in-Bodies.remaining c.in-Bodies.size = sym (ap (λ (p : Parsing). p.state) c.self.view_is) ∙ c.in-Bodies.is in
    let fewer = body_progress c.args.self.now c.next_body.new.self c.next_body.result is c.next_body.ensures.ok c.next_body.ensures.ended in
    record { on = λ f. (tt, tt, fewer); keeps = tt; rests = λ f. tt }
