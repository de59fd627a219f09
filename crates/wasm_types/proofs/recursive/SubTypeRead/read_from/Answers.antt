use Rattle.std.proofs.Common.{◌<◌, refl, sym, ◌∙◌, rules}
use Rattle.wasm_below.specs.Source.{offset_of}
use Rattle.wasm_grammars.proofs.Steps.{begins, then, peeked, unpeeked, peek_ends, taken, fails_in, fails_first, ends, stays}
use Rattle.wasm_types.specs.Types.{sub_type}
use Rattle.wasm_types.proofs.Leading.{declared_some, plain_some, copied, stays_in}
use Rattle.wasm_types.proofs.recursive.SubTypeRead.read_from.Goals as goal

pub returns-in_err-byte : goal.returns-in_err-byte
returns-in_err-byte c = stays _ c.from_residual.ensures.1 (peek_ends (begins sub_type refl) c.in_err-byte.ensures.end)

pub returns-in_err-supertype_idx : goal.returns-in_err-supertype_idx
returns-in_err-supertype_idx c =
    let is = sym c.announces_supertypes.ensures ∙ c.if-announces_supertypes.true in
    let small : c.in_ok-byte.byte < 256 = search rules in
    let next = copied c.clone-ahead.ensures c.in_ok-byte.ensures.prefix in
    let declared = then (peeked (begins sub_type c.clone-ahead.ensures) next is (declared_some (offset_of c.clone-ahead.result))) (taken next small c.advance.ensures) in
    stays _ c.from_residual-in_err-supertype_idx.ensures.1 (fails_in declared c.in_err-supertype_idx.ensures.1)

pub returns-in_err-composite_type : goal.returns-in_err-composite_type
returns-in_err-composite_type c =
    let is = sym c.announces_supertypes.ensures ∙ c.if-announces_supertypes.true in
    let small : c.in_ok-byte.byte < 256 = search rules in
    let next = copied c.clone-ahead.ensures c.in_ok-byte.ensures.prefix in
    let declared = then (peeked (begins sub_type c.clone-ahead.ensures) next is (declared_some (offset_of c.clone-ahead.result))) (taken next small c.advance.ensures) in
    let composite = then declared c.in_ok-supertype_idx.ensures in
    stays _ c.from_residual-in_err-composite_type.ensures.1 (fails_in composite c.in_err-composite_type.ensures.1)

pub returns-then-announces_supertypes : goal.returns-then-announces_supertypes
returns-then-announces_supertypes c =
    let is = sym c.announces_supertypes.ensures ∙ c.if-announces_supertypes.true in
    let small : c.in_ok-byte.byte < 256 = search rules in
    let next = copied c.clone-ahead.ensures c.in_ok-byte.ensures.prefix in
    let declared = then (peeked (begins sub_type c.clone-ahead.ensures) next is (declared_some (offset_of c.clone-ahead.result))) (taken next small c.advance.ensures) in
    ends (then (then declared c.in_ok-supertype_idx.ensures) c.in_ok-composite_type.ensures)

pub returns-in_err-composite_type-2 : goal.returns-in_err-composite_type-2
returns-in_err-composite_type-2 c =
    let is = sym c.announces_supertypes.ensures ∙ c.if-announces_supertypes.false in
    let plain = unpeeked (begins sub_type refl) c.in_ok-byte.ensures.prefix is (plain_some (offset_of c.args.reader.now)) in
    stays_in _ c.in_err-composite_type-2.ensures.0 c.from_residual-in_err-composite_type-2.ensures.1 (fails_first plain c.in_err-composite_type-2.ensures.1)

pub returns : goal.returns
returns c =
    let is = sym c.announces_supertypes.ensures ∙ c.if-announces_supertypes.false in
    let plain = unpeeked (begins sub_type refl) c.in_ok-byte.ensures.prefix is (plain_some (offset_of c.args.reader.now)) in
    ends (then plain c.in_ok-composite_type-2.ensures)
