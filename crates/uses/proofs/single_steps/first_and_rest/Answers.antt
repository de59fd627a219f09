use Rattle.std.proofs.Common.{[], ◌∷◌, ◌++◌, Err, ap, sym, subst, ◌∙◌}
use Rattle.std.proofs.lemmas.Result.{err_from_is_err_and}
use Rattle.wasm_operators.specs.below.Source.{source_of, reader_of}
use Rattle.wasm_operators.specs.grammar.Frames.{innermost}
use Rattle.wasm_operators.specs.instr.Roles.{roles_of}
use Rattle.wasm_operators.specs.Expression.{operators, EncodesExpression}
use Rattle.uses.specs.Input.{input}
use Rattle.uses.proofs.Codes.{memory_alone}
use Rattle.uses.proofs.SingleSteps.{first_then, first_refused, is_no_expression}
use Rattle.uses.proofs.single_steps.first_and_rest.Goals as goal

pub returns-clause-found : goal.returns-clause-found
returns-clause-found c =
    let op = c.in_ok-first.first in
    let read_so_far = c.one_operator.ensures.any [] op c.new-reader.result c.read.new.self c.in_ok-first.ensures c.new-reader.ensures.read_so_far in
    let along = (c.in_ok-read_all.ensures.rest (op ∷ []) read_so_far).tree in
    let list = along.1 ∙ ap (λ first. first ++ along.0) c.new-others.ensures.items in
    let all = first_then c.place_after.ensures c.args.features c.args.bytes.now c.new-reader.result c.read.new.self op along.0 (c.new-reader.ensures.reader ∙ c.new_features.ensures)
    c.in_ok-first.ensures along.2.encodes in
    subst (λ others. EncodesExpression (input c.args.features c.args.bytes.now) ((op, 0) ∷ others)) (sym list) all

pub returns-in_err-read_all-clause-found : goal.returns-in_err-read_all-clause-found
returns-in_err-read_all-clause-found c =
    let p = err_from_is_err_and c.from_residual-in_err-read_all.result c.from_residual-in_err-read_all.ensures.1 in
    rw p.1 tt

pub returns-in_err-read_all-clause-only : goal.returns-in_err-read_all-clause-only
returns-in_err-read_all-clause-only c = λ whole encodes.
    let old = c.new-reader.result in
    let mid = c.read.new.self in
    let first = c.single_reads.ensures.next old old mid [] c.in_ok-first.first (c.single_reads.ensures.first old) c.in_ok-first.ensures in
    let others = c.in_err-read_all.ensures.runs in
    let both = c.single_reads.ensures.joined old mid c.read_all.new.self _ others.0 first others.2 in
    let there = subst (λ r. EncodesExpression (source_of r) whole) (sym (c.new-reader.ensures.reader ∙ c.new_features.ensures)) encodes in
    let p = err_from_is_err_and c.from_residual-in_err-read_all.result c.from_residual-in_err-read_all.ensures.1 in
    rw (p.1, p.2) (c.read_to_the_end.ensures.only [] c.in_err-read_all.field-0.0 old c.read_all.new.self _ whole c.new-reader.ensures.read_so_far both others.3 there)

pub returns-in_err-first-clause-only : goal.returns-in_err-first-clause-only
returns-in_err-first-clause-only c = λ whole encodes.
    let inner = ap innermost c.new-reader.ensures.fresh in
    let none = first_refused (Err c.in_err-first.field-0.0) (reader_of c.args.features 0 c.args.bytes.now) c.new-reader.result c.read.new.self
    (c.new-reader.ensures.reader ∙ c.new_features.ensures) inner c.in_err-first.ensures in
    let p = err_from_is_err_and c.from_residual.result c.from_residual.ensures.1 in
    rw (p.1, p.2) (memory_alone c.in_err-first.field-0.0.message
    (λ other. is_no_expression c.args.features c.args.bytes.now whole (c.rules_accept_walks.ensures (roles_of (operators whole))).1 (none other) encodes))
