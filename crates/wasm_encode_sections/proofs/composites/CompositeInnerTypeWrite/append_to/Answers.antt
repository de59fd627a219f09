use Rattle.std.proofs.Common.{◌≡◌}
use Rattle.wasm_types.specs.declared.composites.CompositeInnerType.TheVariants as inner
use Rattle.wasm_write_grammars.specs.Writing.{NoReason}
use Rattle.wasm_write_grammars.proofs.Owing.{given}
use Rattle.wasm_encode_sections.specs.TypeReasons.{InnerReason, FuncReason, StructReason, ContReason}
use Rattle.wasm_encode_sections.proofs.InnerBytes.{func_starts, array_starts, struct_starts, cont_starts, body_written, body_fails}
use Rattle.wasm_encode_sections.proofs.composites.CompositeInnerTypeWrite.append_to.Goals as goal

pub returns-in_err-append_byte-in-Func : goal.returns-in_err-append_byte-in-Func
returns-in_err-append_byte-in-Func c =
    let (extends, why) = c.in_err-append_byte-in-Func.ensures in
    given InnerReason _ c.from_residual.ensures.1 extends (λ known. absurd (why known).reason)

pub returns-in_err-append_to-in-Func : goal.returns-in_err-append_to-in-Func
returns-in_err-append_to-in-Func c =
    body_fails inner.Func (λ y z e. cc e) c.in-Func.ty c.in-Func.is (func_starts c.in-Func.ty c.args.out.now.items c.in_ok-append_byte-in-Func.ensures) _
    c.from_residual-in_err-append_to-in-Func.ensures.1 FuncReason c.in_err-append_to-in-Func.ensures (λ r. r)

pub returns-in_ok-append_to-in-Func : goal.returns-in_ok-append_to-in-Func
returns-in_ok-append_to-in-Func c =
    body_written inner.Func (λ y z e. cc e) c.in-Func.ty c.in-Func.is (func_starts c.in-Func.ty c.args.out.now.items c.in_ok-append_byte-in-Func.ensures) c.in_ok-append_to-in-Func.ensures

pub returns-in_err-append_byte-in-Array : goal.returns-in_err-append_byte-in-Array
returns-in_err-append_byte-in-Array c =
    let (extends, why) = c.in_err-append_byte-in-Array.ensures in
    given InnerReason _ c.from_residual-in_err-append_byte-in-Array.ensures.1 extends (λ known. absurd (why known).reason)

pub returns-in_err-append_to-in-Array : goal.returns-in_err-append_to-in-Array
returns-in_err-append_to-in-Array c =
    body_fails inner.Array (λ y z e. cc e) c.in-Array.ty c.in-Array.is (array_starts c.in-Array.ty c.args.out.now.items c.in_ok-append_byte-in-Array.ensures) _
    c.from_residual-in_err-append_to-in-Array.ensures.1 NoReason c.in_err-append_to-in-Array.ensures (λ r. absurd r)

pub returns-in_ok-append_to-in-Array : goal.returns-in_ok-append_to-in-Array
returns-in_ok-append_to-in-Array c =
    body_written inner.Array (λ y z e. cc e) c.in-Array.ty c.in-Array.is (array_starts c.in-Array.ty c.args.out.now.items c.in_ok-append_byte-in-Array.ensures) c.in_ok-append_to-in-Array.ensures

pub returns-in_err-append_byte-in-Struct : goal.returns-in_err-append_byte-in-Struct
returns-in_err-append_byte-in-Struct c =
    let (extends, why) = c.in_err-append_byte-in-Struct.ensures in
    given InnerReason _ c.from_residual-in_err-append_byte-in-Struct.ensures.1 extends (λ known. absurd (why known).reason)

pub returns-in_err-append_to-in-Struct : goal.returns-in_err-append_to-in-Struct
returns-in_err-append_to-in-Struct c =
    body_fails inner.Struct (λ y z e. cc e) c.in-Struct.ty c.in-Struct.is (struct_starts c.in-Struct.ty c.args.out.now.items c.in_ok-append_byte-in-Struct.ensures) _
    c.from_residual-in_err-append_to-in-Struct.ensures.1 StructReason c.in_err-append_to-in-Struct.ensures (λ r. r)

pub returns-in_ok-append_to-in-Struct : goal.returns-in_ok-append_to-in-Struct
returns-in_ok-append_to-in-Struct c =
    body_written inner.Struct (λ y z e. cc e) c.in-Struct.ty c.in-Struct.is (struct_starts c.in-Struct.ty c.args.out.now.items c.in_ok-append_byte-in-Struct.ensures) c.in_ok-append_to-in-Struct.ensures

pub returns-in_err-append_byte-in-Cont : goal.returns-in_err-append_byte-in-Cont
returns-in_err-append_byte-in-Cont c =
    let (extends, why) = c.in_err-append_byte-in-Cont.ensures in
    given InnerReason _ c.from_residual-in_err-append_byte-in-Cont.ensures.1 extends (λ known. absurd (why known).reason)

pub returns-in_err-append_to-in-Cont : goal.returns-in_err-append_to-in-Cont
returns-in_err-append_to-in-Cont c =
    body_fails inner.Cont (λ y z e. cc e) c.in-Cont.ty c.in-Cont.is (cont_starts c.in-Cont.ty c.args.out.now.items c.in_ok-append_byte-in-Cont.ensures) _
    c.from_residual-in_err-append_to-in-Cont.ensures.1 ContReason c.in_err-append_to-in-Cont.ensures (λ r. r)

pub returns-in_ok-append_to-in-Cont : goal.returns-in_ok-append_to-in-Cont
returns-in_ok-append_to-in-Cont c =
    body_written inner.Cont (λ y z e. cc e) c.in-Cont.ty c.in-Cont.is (cont_starts c.in-Cont.ty c.args.out.now.items c.in_ok-append_byte-in-Cont.ensures) c.in_ok-append_to-in-Cont.ensures
