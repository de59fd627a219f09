use Rattle.std.proofs.Common.{[], ◌++◌, ap, subst, sym, ◌∙◌, inr}
use Rattle.wasm_below.specs.Source.{source_of}
use Rattle.wasm_operators.specs.Expression.{EncodesExpression}
use Rattle.wasm_operators.specs.Locals.{IsPastLocals}
use Rattle.wasm_compaction.proofs.Functions.{body_compacted}
use Rattle.wasm_compaction.proofs.body.compact_body.Goals as goal

pub returns-in-Ok-write_shortened_body-clause-compacts :
    goal.returns-in-Ok-write_shortened_body-clause-compacts
returns-in-Ok-write_shortened_body-clause-compacts c =
    let locals = c.in-Ok.read.0.items in
    let along = (c.in-Ok-read_all.ensures.rest [] c.new-ahead.ensures.read_so_far).tree in
    let list = along.1 ∙ ap (λ first. first ++ along.0) c.new-operators.ensures.items in
    let past = subst (λ b. IsPastLocals locals b c.in-Ok.read.1) c.new-function.ensures c.in-Ok.ensures.past in
    let encodes = subst (λ r. EncodesExpression (source_of r) along.0) c.new-ahead.ensures.reader along.2.encodes in
    let body = c.past_locals.ensures.body c.args.body c.in-Ok.read.1 locals along.0 past encodes in
    body_compacted c.features-features.result c.args.body locals c.as_slice-locals.result.now along.0 c.as_slice.result.now c.args.out.now.items
    c.write_shortened_body.new.out.items body c.features-features.ensures c.as_slice-locals.ensures.value (c.as_slice.ensures.value ∙ list) c.requires
    c.in-Ok-write_shortened_body.ensures.written

pub returns-clause-refuses : goal.returns-clause-refuses
returns-clause-refuses c = λ other.
    let locals = c.in-Ok.read.0.items in
    let stopped = (c.in-Err-read_all.ensures.rest [] c.new-ahead.ensures.read_so_far).beginning in
    let past = subst (λ b. IsPastLocals locals b c.in-Ok.read.1) c.new-function.ensures c.in-Ok.ensures.past in
    let there = subst (λ r. IsPastLocals locals c.args.body r) (sym c.new-ahead.ensures.reader) past in
    inr (
      stopped.0,
      c.opened_bodies.ensures.stopped c.in-Err-read_all.e c.args.body c.new-ahead.result c.read_all.new.self stopped.0
          ((locals, there), c.new-ahead.ensures.fresh) stopped.2,
    )
