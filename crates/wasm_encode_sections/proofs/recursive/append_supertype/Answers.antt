use Rattle.std.proofs.Common.{refl, sym, subst, arith}
use Rattle.std.specs.Prelude.{Some, None}
use Rattle.wasm_types.specs.Types.{supertype}
use Rattle.wasm_write_grammars.specs.Writing.{Writes, AppendsBy}
use Rattle.wasm_write_grammars.proofs.Owing.{given, extends_all, extends_then}
use Rattle.wasm_encode_sections.specs.TypeReasons.{SuperReason}
use Rattle.wasm_encode_sections.proofs.SubtypeBytes.{super_unwritable}
use Rattle.wasm_encode_sections.proofs.SubtypeSteps.{no_super_written, super_written, size_fits}
use Rattle.wasm_encode_sections.proofs.recursive.append_supertype.Goals as goal

pub returns-in_err-append_size-in-None : goal.returns-in_err-append_size-in-None
returns-in_err-append_size-in-None c =
    let (extends, why) = c.in_err-append_size-in-None.ensures in
    given SuperReason _ c.from_residual.ensures.1 extends (λ known. absurd (size_fits (omega arith) (why known).reason))

pub returns-in_ok-append_size-in-None : goal.returns-in_ok-append_size-in-None
returns-in_ok-append_size-in-None c = no_super_written c.in-None.is c.in_ok-append_size-in-None.ensures

pub returns-then-index-gt-MAX_TYPE_INDEX : goal.returns-then-index-gt-MAX_TYPE_INDEX
returns-then-index-gt-MAX_TYPE_INDEX c =
    let high = c.if-index-gt-MAX_TYPE_INDEX.true in
    (extends_all _, λ known. super_unwritable c.in-Some.index c.in-Some.is (omega (arith, high)))

pub returns-in_err-append_size-in-Some : goal.returns-in_err-append_size-in-Some
returns-in_err-append_size-in-Some c =
    let (extends, why) = c.in_err-append_size-in-Some.ensures in
    given SuperReason _ c.from_residual-in_err-append_size-in-Some.ensures.1 extends (λ known. absurd (size_fits (omega arith) (why known).reason))

pub returns-in_err-append_u32-in-Some : goal.returns-in_err-append_u32-in-Some
returns-in_err-append_u32-in-Some c =
    let (extends, why) = c.in_err-append_u32-in-Some.ensures in
    let w = c.in_ok-append_size-in-Some.ensures in
    given SuperReason _ c.from_residual-in_err-append_u32-in-Some.ensures.1 (extends_then (record { part = w.text; appended = w.appended }) extends) (λ known. absurd (why known).reason)

pub returns-in_ok-append_u32-in-Some : goal.returns-in_ok-append_u32-in-Some
returns-in_ok-append_u32-in-Some c =
    let low = c.if-index-gt-MAX_TYPE_INDEX.false in
    super_written c.in-Some.index c.in-Some.is (omega (arith, low)) c.in_ok-append_size-in-Some.ensures c.in_ok-append_u32-in-Some.ensures
