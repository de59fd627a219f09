use Rattle.std.proofs.Common.{sym, ◌∙◌}
use Rattle.wasm_write_grammars.proofs.Owing.{given}
use Rattle.wasm_encode_sections.specs.TypeReasons.{GroupReason}
use Rattle.wasm_encode_sections.proofs.GroupSteps.{implicit_written, implicit_fails, explicit_written, explicit_fails}
use Rattle.wasm_encode_sections.proofs.SameValue.{writes_as, fails_as}
use Rattle.wasm_encode_sections.proofs.recursive.RecGroupWrite.append_to.Goals as goal

pub returns-in_err-append_to-in-Implicit : goal.returns-in_err-append_to-in-Implicit
returns-in_err-append_to-in-Implicit c = implicit_fails c.in-Implicit.ty c.in-Implicit.is _ c.from_residual.ensures.1 c.in_err-append_to-in-Implicit.ensures

pub returns-in_ok-append_to-in-Implicit : goal.returns-in_ok-append_to-in-Implicit
returns-in_ok-append_to-in-Implicit c = implicit_written c.in-Implicit.ty c.in-Implicit.is c.in_ok-append_to-in-Implicit.ensures

pub returns-in_err-append_byte-in-Explicit : goal.returns-in_err-append_byte-in-Explicit
returns-in_err-append_byte-in-Explicit c =
    let (extends, why) = c.in_err-append_byte-in-Explicit.ensures in
    given GroupReason _ c.from_residual-in_err-append_byte-in-Explicit.ensures.1 extends (λ known. absurd (why known).reason)

pub returns-in_err-append_list-in-Explicit : goal.returns-in_err-append_list-in-Explicit
returns-in_err-append_list-in-Explicit c =
    explicit_fails c.in-Explicit.types c.in-Explicit.is _ c.from_residual-in_err-append_list-in-Explicit.ensures.1 c.in_ok-append_byte-in-Explicit.ensures
    (fails_as c.as_slice.ensures c.in_err-append_list-in-Explicit.ensures)

pub returns-in_ok-append_list-in-Explicit : goal.returns-in_ok-append_list-in-Explicit
returns-in_ok-append_list-in-Explicit c =
    explicit_written c.in-Explicit.types c.in-Explicit.is c.in_ok-append_byte-in-Explicit.ensures (writes_as c.as_slice.ensures c.in_ok-append_list-in-Explicit.ensures)
