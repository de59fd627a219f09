use Rattle.std.proofs.Common.{◌≡◌, sym, subst}
use Rattle.wasm_below.specs.Number.{EncodesUnsigned}
use Rattle.wasm_below.specs.Source.{IsByte, EndFault, U32Fault, BeginsWith, rest}
use Rattle.wasm_module.specs.Types.{EncodesRecTypeLength, RecTypeLengthFault}
use Rattle.wasm_below.proofs.Ahead.{second_fails, stays, advances}
use Rattle.wasm_below.proofs.PrefixCode.{byte_prefix_code}
use Rattle.wasm_module.proofs.Composites.{rec_type_byte, rec_type_there, rec_type_read, rec_type_refused}
use Rattle.wasm_module.proofs.Sequences.{then_read}
use Rattle.wasm_module.proofs.composite.read_rec_type_len.Goals as goal

pub returns-in_err-read_u8-clause-rec_type : goal.returns-in_err-read_u8-clause-rec_type
returns-in_err-read_u8-clause-rec_type c =
    let h = c.in_err-read_u8.ensures in
    λ begins.
    let here = subst (λ r. BeginsWith 0x4e (rest r)) (sym c.clone-ahead.ensures) begins in
    absurd (rec_type_there {old = c.clone-ahead.result} here (h.1, h.2))

pub returns-clause-rec_type : goal.returns-clause-rec_type
returns-clause-rec_type c =
    λ begins.
    let here = subst (λ r. BeginsWith 0x4e (rest r)) (sym c.clone-ahead.ensures) begins in
    let first = c.in_ok-read_u8.ensures in
    advances EncodesRecTypeLength c.clone-ahead.ensures
    (then_read IsByte (λ byte text n. (byte ≡ 0x4e) × EncodesUnsigned 32 text n) first (rec_type_read (rec_type_byte here first) c.in_ok-length.ensures))

pub returns-in_err-length-clause-rec_type : goal.returns-in_err-length-clause-rec_type
returns-in_err-length-clause-rec_type c =
    let h = c.in_err-length.ensures in
    λ begins.
    let first = c.in_ok-read_u8.ensures in
    let s = second_fails IsByte (λ byte text n. (byte ≡ 0x4e) × EncodesUnsigned 32 text n) EndFault (λ byte. U32Fault) byte_prefix_code first
    (rec_type_refused c.in_ok-read_u8.field-0 (h.1, h.2)) in
    stays EncodesRecTypeLength RecTypeLengthFault _ c.clone-ahead.ensures c.from_residual-in_err-length.ensures.1
    (s.0, (c.in_ok-read_u8.field-0, c.read_u8.new.self, first, h.2))
