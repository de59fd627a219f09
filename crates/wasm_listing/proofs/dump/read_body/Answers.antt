use Rattle.std.proofs.Common.{[], sym, append-nil}
use Rattle.std.proofs.lemmas.Result.{err_from_is_err_and}
use Rattle.wasm_operators.specs.Reading.{Adds}
use Rattle.wasm_operators.specs.Next.{collecting}
use Rattle.wasm_listing.specs.Dump.{input_of}
use Rattle.wasm_listing.proofs.BodyLemmas.{refused_body, opened_body}
use Rattle.wasm_listing.proofs.dump.read_body.Goals as goal

pub returns-in_err-operators-clause-reads : goal.returns-in_err-operators-clause-reads
returns-in_err-operators-clause-reads c =
    let p = err_from_is_err_and c.from_residual.result c.from_residual.ensures.1 in
    let e = c.in_err-operators.field-0.0 in
    let body = input_of c.args.features c.args.bytes.now in
    let out = c.args.out.now.items in
    rw (p.1, p.2) (refused_body (Unit {0}) (Adds out out) e body (sym (append-nil out)) (c.refused_locals.ensures.stopped e body c.in_err-operators.ensures.opens))

pub returns-in_err-operators-clause-whole : goal.returns-in_err-operators-clause-whole
returns-in_err-operators-clause-whole c = λ declarations placed encodes.
    absurd (c.refused_locals.ensures.none c.in_err-operators.field-0.0 (input_of c.args.features c.args.bytes.now) declarations placed
    c.in_err-operators.ensures.opens encodes)

pub returns-clause-reads : goal.returns-clause-reads
returns-clause-reads c =
    opened_body collecting (Adds c.args.out.now.items c.read_all.new.out.items) c.read_all.result (input_of c.args.features c.args.bytes.now)
    c.in_ok-operators.operators c.read_all.new.self c.opened_bodies.ensures.whole c.opened_bodies.ensures.stopped c.in_ok-operators.ensures.opens
    (c.read_all.ensures.rest [] c.in_ok-operators.ensures.read_so_far)

pub returns-clause-whole : goal.returns-clause-whole
returns-clause-whole c = λ declarations placed encodes.
    (c.read_all.ensures.rest [] c.in_ok-operators.ensures.read_so_far).only placed
    (c.opened_bodies.ensures.expression (input_of c.args.features c.args.bytes.now) c.in_ok-operators.operators declarations placed
    c.in_ok-operators.ensures.opens encodes) tt
