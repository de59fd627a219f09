use Rattle.std.proofs.Common.{ℕ}
use Rattle.wasm_below.specs.Number.{EncodesUnsigned}
use Rattle.wasm_below.specs.Source.{IsByte, EndFault, U32Fault}
use Rattle.wasm_module.specs.Exports.{EncodesExternIndex, ExternIndexFault, ExportParts, EncodesExport, ExportFault}
use Rattle.wasm_module.specs.Names.{EncodesName, NameFault}
use Rattle.wasm_below.proofs.Ahead.{stays, advances}
use Rattle.wasm_below.proofs.PrefixCode.{byte_prefix_code}
use Rattle.wasm_module.proofs.Named.{name_code}
use Rattle.wasm_module.proofs.Sequences.{both_read, both_first, both_second}
use Rattle.wasm_module.proofs.export.Export.read.Goals as goal

pub returns-in_err-name : goal.returns-in_err-name
returns-in_err-name c =
    let h = c.in_err-name.ensures in
    stays EncodesExport ExportFault _ c.clone-ahead.ensures c.from_residual.ensures.1
    (both_first EncodesName EncodesExternIndex NameFault (λ name. ExternIndexFault) (λ (e : ExportParts). (e.name, (e.kind, e.index))) (h.1, h.2))

pub returns-in_err-kind : goal.returns-in_err-kind
returns-in_err-kind c =
    let h = c.in_err-kind.ensures in
    stays EncodesExport ExportFault _ c.clone-ahead.ensures c.from_residual-in_err-kind.ensures.1
    (both_second EncodesName EncodesExternIndex NameFault (λ name. ExternIndexFault) (λ (e : ExportParts). (e.name, (e.kind, e.index))) (name_code (c.unsigned_numbers.ensures 32)) c.in_ok-name.ensures
    (both_first IsByte (EncodesUnsigned 32) EndFault (λ kind. U32Fault) (λ (p : ℕ × ℕ). p) (h.1, h.2)))

pub returns-in_err-index : goal.returns-in_err-index
returns-in_err-index c =
    let h = c.in_err-index.ensures in
    stays EncodesExport ExportFault _ c.clone-ahead.ensures c.from_residual-in_err-index.ensures.1
    (both_second EncodesName EncodesExternIndex NameFault (λ name. ExternIndexFault) (λ (e : ExportParts). (e.name, (e.kind, e.index))) (name_code (c.unsigned_numbers.ensures 32)) c.in_ok-name.ensures
    (both_second IsByte (EncodesUnsigned 32) EndFault (λ kind. U32Fault) (λ (p : ℕ × ℕ). p) byte_prefix_code c.in_ok-kind.ensures (h.1, h.2)))

pub returns : goal.returns
returns c =
    advances EncodesExport c.clone-ahead.ensures
    (both_read EncodesName EncodesExternIndex c.in_ok-name.ensures (both_read IsByte (EncodesUnsigned 32) c.in_ok-kind.ensures c.in_ok-index.ensures))
