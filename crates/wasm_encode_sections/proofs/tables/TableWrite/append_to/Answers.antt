use Rattle.std.proofs.Common.{inl, inr}
use Rattle.wasm_write_grammars.proofs.Owing.{thing_fails, given, extends_then}
use Rattle.wasm_encode_sections.specs.SegmentReasons.{InitializedReason}
use Rattle.wasm_encode_sections.proofs.TableSteps.{init_reason, null_starts, only_null, null_written, announced, zero_starts, only_type_of_table, only_init, type_starts, init_written}
use Rattle.wasm_encode_sections.proofs.tables.TableWrite.append_to.Goals as goal

pub returns-in_err-append_to-in-RefNull : goal.returns-in_err-append_to-in-RefNull
returns-in_err-append_to-in-RefNull g c =
    let f = c.args.features in
    let p = g.C.Write.grammar f in
    let x = c.args.self.now in
    thing_fails (InitializedReason f (g.C.Write.reason f)) _ c.from_residual.ensures.1 (null_starts f p x c.args.out.now.items c.in-RefNull.is) x.ty
    (only_null f p x c.args.out.now.items) c.in_err-append_to-in-RefNull.ensures (λ r. inl r)

pub returns-in_ok-append_to-in-RefNull : goal.returns-in_ok-append_to-in-RefNull
returns-in_ok-append_to-in-RefNull g c =
    let f = c.args.features in
    null_written f (g.C.Write.grammar f) c.args.self.now c.args.out.now.items c.in-RefNull.is c.in_ok-append_to-in-RefNull.ensures

pub returns-in_err-append_byte-in-Expr : goal.returns-in_err-append_byte-in-Expr
returns-in_err-append_byte-in-Expr g c =
    let f = c.args.features in
    let (extends, why) = c.in_err-append_byte-in-Expr.ensures in
    given (InitializedReason f (g.C.Write.reason f)) _ c.from_residual-in_err-append_byte-in-Expr.ensures.1 extends (λ known. absurd (why known).reason)

pub returns-in_err-append_zero-in-Expr : goal.returns-in_err-append_zero-in-Expr
returns-in_err-append_zero-in-Expr g c =
    let f = c.args.features in
    let p = g.C.Write.grammar f in
    let (extends, why) = c.in_err-append_zero-in-Expr.ensures in
    given (InitializedReason f (g.C.Write.reason f)) _ c.from_residual-in_err-append_zero-in-Expr.ensures.1
    (extends_then (announced f p c.args.self.now c.args.out.now.items c.in-Expr.value c.in-Expr.is c.in_ok-append_byte-in-Expr.ensures).appended extends) (λ known. absurd (why known).reason)

pub returns-in_err-append_to-in-Expr : goal.returns-in_err-append_to-in-Expr
returns-in_err-append_to-in-Expr g c =
    let f = c.args.features in
    let p = g.C.Write.grammar f in
    let x = c.args.self.now in
    let old = c.args.out.now.items in
    thing_fails (InitializedReason f (g.C.Write.reason f)) _ c.from_residual-in_err-append_to-in-Expr.ensures.1
    (zero_starts f p x old c.in-Expr.value c.in-Expr.is c.in_ok-append_byte-in-Expr.ensures c.in_ok-append_zero-in-Expr.ensures) x.ty
    (only_type_of_table f p x old c.in-Expr.value c.in-Expr.is c.in_ok-append_byte-in-Expr.ensures) c.in_err-append_to-in-Expr.ensures (λ r. inl r)

pub returns-in_err-append_to-in-Expr-2 : goal.returns-in_err-append_to-in-Expr-2
returns-in_err-append_to-in-Expr-2 g c =
    let f = c.args.features in
    let p = g.C.Write.grammar f in
    let Why = g.C.Write.reason f in
    let x = c.args.self.now in
    let old = c.args.out.now.items in
    let v = c.in-Expr.value in
    thing_fails (InitializedReason f Why) _ c.from_residual-in_err-append_to-in-Expr-2.ensures.1
    (type_starts f p x old v c.in-Expr.is c.in_ok-append_byte-in-Expr.ensures c.in_ok-append_zero-in-Expr.ensures c.in_ok-append_to-in-Expr.ensures) v
    (only_init f p x old v c.in-Expr.is c.in_ok-append_byte-in-Expr.ensures x.ty) c.in_err-append_to-in-Expr-2.ensures (λ r. inr (init_reason Why v c.in-Expr.is r))

pub returns-in_ok-append_to-in-Expr-2 : goal.returns-in_ok-append_to-in-Expr-2
returns-in_ok-append_to-in-Expr-2 g c =
    let f = c.args.features in
    init_written f (g.C.Write.grammar f) c.args.self.now c.args.out.now.items c.in-Expr.value c.in-Expr.is c.in_ok-append_byte-in-Expr.ensures
    c.in_ok-append_zero-in-Expr.ensures c.in_ok-append_to-in-Expr.ensures c.in_ok-append_to-in-Expr-2.ensures
