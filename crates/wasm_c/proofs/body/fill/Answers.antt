use Rattle.std.proofs.Common.{◌≡◌, [], subst, arith, inl, inr}
use Rattle.wasm_operators.specs.below.Source.{rest}
use Rattle.wasm_c.proofs.Filled.{filled_first, filled_on, filled_still, filled_to}
use Rattle.wasm_c.proofs.body.fill.Goals as goal

pub places-init : goal.places-init
places-init c = filled_first c.args.operators.now c.args.out.now (c.single_reads.ensures.first c.args.operators.now)

pub places-preserved : goal.places-preserved
places-preserved c =
    let came = c.in-Ok.ensures in
    filled_on c.args.operators.now c.places.operators c.visit_operator_simd.new.self c.args.out.now c.places.out c.places.count
    c.original_position.result came.0 c.visit_operator_simd.new.v.view c.single_reads.ensures.next c.places.invariant came.1
    c.original_position.ensures c.places-test.true c.places.auto.out came.2.0

pub returns-then-eof : goal.returns-then-eof
returns-then-eof c =
    filled_to _ c.args.operators.now c.places.operators c.args.out.now c.places.out c.places.count c.places.invariant (inr (c.eof.ensures.0 c.if-eof.true))

pub returns-in-Err : goal.returns-in-Err
returns-in-Err c =
    let same = c.in-Err.ensures.0 in
    let still = filled_still c.args.operators.now c.places.operators c.visit_operator_simd.new.self c.args.out.now c.places.out c.places.count
    c.single_reads.ensures.refused c.places.invariant same in
    filled_to _ c.args.operators.now c.visit_operator_simd.new.self c.args.out.now c.places.out c.places.count still
    (inr (λ none. absurd (cc (c.eof.ensures.1 (subst (λ r. rest r ≡ []) same.0 none), c.if-eof.false)), c.in-Err.ensures.2))

pub returns : goal.returns
returns c =
    let f = c.places.invariant in
    filled_to _ c.args.operators.now c.places.operators c.args.out.now c.places.out c.places.count f
    (inl (omega (arith, f.2, f.3, c.places-test.false, c.places.auto.out)))
