use Rattle.std.proofs.Common.{refl, sym, arith}
use Rattle.std.proofs.lemmas.Bool.{eq-eqb, ne_eqb}
use Rattle.wasm_below.specs.Source.{offset_of}
use Rattle.wasm_grammars.proofs.Steps.{begins, then, peeked, unpeeked, peek_ends, taken, fails_in, fails_first, ends_as, stays}
use Rattle.wasm_c_items.specs.Types.{group_item}
use Rattle.wasm_types.proofs.Leading.{copied, stays_in}
use Rattle.wasm_c_items.proofs.Leading.{function_some, other_some}
use Rattle.wasm_c_items.proofs.types.WasmGroupRead.read_from.Goals as goal

pub returns-in_err-byte : goal.returns-in_err-byte
returns-in_err-byte c = stays _ c.from_residual.ensures.1 (peek_ends (begins group_item refl) c.in_err-byte.ensures.end)

pub returns-in_err-params : goal.returns-in_err-params
returns-in_err-params c =
    let is = c.if-byte-eq-FUNCTION.true in
    let next = copied c.clone-ahead.ensures c.in_ok-byte.ensures.prefix in
    let function = peeked (begins group_item c.clone-ahead.ensures) next (eq-eqb _ _ is) (function_some (offset_of c.clone-ahead.result)) in
    let params = then function (taken next (omega (arith, is)) c.advance.ensures) in
    stays _ c.from_residual-in_err-params.ensures.1 (fails_in params c.in_err-params.ensures.1)

pub returns-in_err-results : goal.returns-in_err-results
returns-in_err-results c =
    let is = c.if-byte-eq-FUNCTION.true in
    let next = copied c.clone-ahead.ensures c.in_ok-byte.ensures.prefix in
    let function = peeked (begins group_item c.clone-ahead.ensures) next (eq-eqb _ _ is) (function_some (offset_of c.clone-ahead.result)) in
    let results = then (then function (taken next (omega (arith, is)) c.advance.ensures)) c.in_ok-params.ensures in
    stays _ c.from_residual-in_err-results.ensures.1 (fails_in results c.in_err-results.ensures.1)

pub returns-then-byte-eq-FUNCTION : goal.returns-then-byte-eq-FUNCTION
returns-then-byte-eq-FUNCTION c =
    let is = c.if-byte-eq-FUNCTION.true in
    let next = copied c.clone-ahead.ensures c.in_ok-byte.ensures.prefix in
    let function = peeked (begins group_item c.clone-ahead.ensures) next (eq-eqb _ _ is) (function_some (offset_of c.clone-ahead.result)) in
    let results = then (then function (taken next (omega (arith, is)) c.advance.ensures)) c.in_ok-params.ensures in
    ends_as (then results c.in_ok-results.ensures) (sym c.function_of.ensures)

pub returns-in_err-group : goal.returns-in_err-group
returns-in_err-group c =
    let other = unpeeked (begins group_item refl) c.in_ok-byte.ensures.prefix (ne_eqb _ _ c.if-byte-eq-FUNCTION.false) (other_some (offset_of c.args.reader.now)) in
    stays_in _ c.in_err-group.ensures.0 c.from_residual-in_err-group.ensures.1 (fails_first other c.in_err-group.ensures.1)

pub returns : goal.returns
returns c =
    let other = unpeeked (begins group_item refl) c.in_ok-byte.ensures.prefix (ne_eqb _ _ c.if-byte-eq-FUNCTION.false) (other_some (offset_of c.args.reader.now)) in
    ends_as (then other c.in_ok-group.ensures) (sym c.other_of.ensures)
