use Rattle.std.proofs.Common.{[], refl}
use Rattle.std.proofs.lemmas.Result.{err_from_is_err_and}
use Rattle.wasm_operators.specs.Next.{all_operators}
use Rattle.wasm_listing.specs.Census.{Counted}
use Rattle.wasm_listing.specs.Dump.{input_of}
use Rattle.wasm_listing.proofs.BodyLemmas.{refused_body, opened_body, opened_memory}
use Rattle.wasm_listing.proofs.body_census.count_body.Goals as goal

pub returns-in_err-operators-clause-counts : goal.returns-in_err-operators-clause-counts
returns-in_err-operators-clause-counts c =
    let p = err_from_is_err_and c.from_residual.result c.from_residual.ensures.1 in
    let e = c.in_err-operators.field-0.0 in
    let body = input_of c.args.features c.args.bytes.now in
    rw (p.1, p.2) (refused_body (Unit {0}) (Counted c.args.census.now c.args.census.now) e body ([], (refl, refl))
    (c.refused_locals.ensures.stopped e body c.in_err-operators.ensures.opens))

pub returns-in_err-operators-clause-whole : goal.returns-in_err-operators-clause-whole
returns-in_err-operators-clause-whole c = λ declarations placed encodes.
    absurd (c.refused_locals.ensures.none c.in_err-operators.field-0.0 (input_of c.args.features c.args.bytes.now) declarations placed
    c.in_err-operators.ensures.opens encodes)

pub returns-in_err-operators-clause-memory : goal.returns-in_err-operators-clause-memory
returns-in_err-operators-clause-memory c =
    let p = err_from_is_err_and c.from_residual.result c.from_residual.ensures.1 in
    let body = input_of c.args.features c.args.bytes.now in
    let none = c.refused_locals.ensures.memory c.in_err-operators.field-0.0 body c.in_err-operators.ensures.opens in
    rw (p.1, p.2) (λ is. absurd (none is))

pub returns-clause-counts : goal.returns-clause-counts
returns-clause-counts c =
    opened_body all_operators (Counted c.args.census.now c.visit_all_simd.new.v) c.visit_all_simd.result
    (input_of c.args.features c.args.bytes.now) c.in_ok-operators.operators c.visit_all_simd.new.self c.opened_bodies.ensures.whole
    c.opened_bodies.ensures.stopped_visits c.in_ok-operators.ensures.opens (c.visit_all_simd.ensures.rest [] c.in_ok-operators.ensures.read_so_far)

pub returns-clause-whole : goal.returns-clause-whole
returns-clause-whole c = λ declarations placed encodes.
    (c.visit_all_simd.ensures.rest [] c.in_ok-operators.ensures.read_so_far).only placed
    (c.opened_bodies.ensures.expression (input_of c.args.features c.args.bytes.now) c.in_ok-operators.operators declarations placed
    c.in_ok-operators.ensures.opens encodes) tt

pub returns-clause-memory : goal.returns-clause-memory
returns-clause-memory c =
    opened_memory (Counted c.args.census.now c.visit_all_simd.new.v) c.visit_all_simd.result (input_of c.args.features c.args.bytes.now)
    c.in_ok-operators.operators c.visit_all_simd.new.self c.memory_asked.ensures.visits c.in_ok-operators.ensures.opens c.visit_all_simd.ensures.runs
