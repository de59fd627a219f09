use Rattle.std.proofs.Common.{refl, sym, subst, arith}
use Rattle.std.proofs.lemmas.Bool.{eq-eqb, ne_eqb}
use Rattle.wasm_below.specs.Source.{rest, offset_of, BeginsWith}
use Rattle.wasm_externals.specs.Limits.{table_type}
use Rattle.wasm_grammars.proofs.Steps.{begins, then, peeked, unpeeked, peek_ends, taken, read_by_features, fails_by_features, fails_in, ends, stays}
use Rattle.wasm_segments.specs.Globals.{table}
use Rattle.wasm_segments.proofs.Leading.{initialized_some, null_some}
use Rattle.wasm_segments.proofs.table.TableRead.read_from.Goals as goal

pub returns-in_err-byte : goal.returns-in_err-byte
returns-in_err-byte g c =
    let features = c.args.reader.now.features in
    stays _ c.from_residual.ensures.1 (peek_ends (begins (table features (g.C.Read.grammar features)) refl) c.in_err-byte.ensures.end)

pub returns-in_err-read_zero : goal.returns-in_err-read_zero
returns-in_err-read_zero g c =
    let features = c.args.reader.now.features in
    let begun = begins (table features (g.C.Read.grammar features)) c.clone-ahead.ensures in
    let next = subst (λ r. BeginsWith c.in_ok-byte.byte (rest r)) (sym c.clone-ahead.ensures) c.in_ok-byte.ensures.prefix in
    let is = c.if-byte-eq-INITIALIZED.true in
    let announced = peeked begun next (eq-eqb _ _ is) (initialized_some features (g.C.Read.grammar features) (offset_of c.clone-ahead.result)) in
    let first = then announced (taken next (omega (arith, is)) c.advance.ensures) in
    stays _ c.from_residual-in_err-read_zero.ensures.1 (fails_in first c.in_err-read_zero.ensures.1)

pub returns-in_err-ty : goal.returns-in_err-ty
returns-in_err-ty g c =
    let features = c.args.reader.now.features in
    let begun = begins (table features (g.C.Read.grammar features)) c.clone-ahead.ensures in
    let next = subst (λ r. BeginsWith c.in_ok-byte.byte (rest r)) (sym c.clone-ahead.ensures) c.in_ok-byte.ensures.prefix in
    let is = c.if-byte-eq-INITIALIZED.true in
    let announced = peeked begun next (eq-eqb _ _ is) (initialized_some features (g.C.Read.grammar features) (offset_of c.clone-ahead.result)) in
    let first = then announced (taken next (omega (arith, is)) c.advance.ensures) in
    let zero = then first c.in_ok-read_zero.ensures in
    stays _ c.from_residual-in_err-ty.ensures.1 (fails_in zero (fails_by_features table_type zero c.in_err-ty.ensures.1))

pub returns-in_err-value : goal.returns-in_err-value
returns-in_err-value g c =
    let features = c.args.reader.now.features in
    let begun = begins (table features (g.C.Read.grammar features)) c.clone-ahead.ensures in
    let next = subst (λ r. BeginsWith c.in_ok-byte.byte (rest r)) (sym c.clone-ahead.ensures) c.in_ok-byte.ensures.prefix in
    let is = c.if-byte-eq-INITIALIZED.true in
    let announced = peeked begun next (eq-eqb _ _ is) (initialized_some features (g.C.Read.grammar features) (offset_of c.clone-ahead.result)) in
    let first = then announced (taken next (omega (arith, is)) c.advance.ensures) in
    let zero = then first c.in_ok-read_zero.ensures in
    let ty = then zero (read_by_features table_type zero _ c.in_ok-ty.ensures) in
    stays _ c.from_residual-in_err-value.ensures.1 (fails_in ty (fails_by_features (g.C.Read.grammar) ty c.in_err-value.ensures.1))

pub returns-then-byte-eq-INITIALIZED : goal.returns-then-byte-eq-INITIALIZED
returns-then-byte-eq-INITIALIZED g c =
    let features = c.args.reader.now.features in
    let begun = begins (table features (g.C.Read.grammar features)) c.clone-ahead.ensures in
    let next = subst (λ r. BeginsWith c.in_ok-byte.byte (rest r)) (sym c.clone-ahead.ensures) c.in_ok-byte.ensures.prefix in
    let is = c.if-byte-eq-INITIALIZED.true in
    let announced = peeked begun next (eq-eqb _ _ is) (initialized_some features (g.C.Read.grammar features) (offset_of c.clone-ahead.result)) in
    let first = then announced (taken next (omega (arith, is)) c.advance.ensures) in
    let zero = then first c.in_ok-read_zero.ensures in
    let ty = then zero (read_by_features table_type zero _ c.in_ok-ty.ensures) in
    ends (then ty (read_by_features (g.C.Read.grammar) ty _ c.in_ok-value.ensures))

pub returns-in_err-ty-2 : goal.returns-in_err-ty-2
returns-in_err-ty-2 g c =
    let features = c.args.reader.now.features in
    let begun = begins (table features (g.C.Read.grammar features)) c.clone-ahead.ensures in
    let next = subst (λ r. BeginsWith c.in_ok-byte.byte (rest r)) (sym c.clone-ahead.ensures) c.in_ok-byte.ensures.prefix in
    let null = unpeeked begun next (ne_eqb _ _ c.if-byte-eq-INITIALIZED.false) (null_some features (offset_of c.clone-ahead.result)) in
    stays _ c.from_residual-in_err-ty-2.ensures.1 (fails_in null (fails_by_features table_type null c.in_err-ty-2.ensures.1))

pub returns : goal.returns
returns g c =
    let features = c.args.reader.now.features in
    let begun = begins (table features (g.C.Read.grammar features)) c.clone-ahead.ensures in
    let next = subst (λ r. BeginsWith c.in_ok-byte.byte (rest r)) (sym c.clone-ahead.ensures) c.in_ok-byte.ensures.prefix in
    let null = unpeeked begun next (ne_eqb _ _ c.if-byte-eq-INITIALIZED.false) (null_some features (offset_of c.clone-ahead.result)) in
    ends (then null (read_by_features table_type null _ c.in_ok-ty-2.ensures))
