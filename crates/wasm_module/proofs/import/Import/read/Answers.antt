use Rattle.std.proofs.Common.{ℕ, List}
use Rattle.wasm_module.specs.Imports.{EncodesExternType, ExternTypeFault, EncodesNamed, NamedFault, ImportParts, EncodesImport, ImportFault}
use Rattle.wasm_module.specs.Names.{EncodesName, NameFault}
use Rattle.wasm_below.proofs.Ahead.{stays, advances}
use Rattle.wasm_module.proofs.Named.{name_code}
use Rattle.wasm_module.proofs.Sequences.{both_read, both_first, both_second}
use Rattle.wasm_module.proofs.import.Import.read.Goals as goal

pub returns-in_err-module_name : goal.returns-in_err-module_name
returns-in_err-module_name c =
    let h = c.in_err-module_name.ensures in
    stays EncodesImport ImportFault _ c.clone-ahead.ensures c.from_residual.ensures.1
    (both_first EncodesName EncodesNamed NameFault (λ module_name. NamedFault) (λ (i : ImportParts). (i.module_name, (i.name, i.kind))) (h.1, h.2))

pub returns-in_err-name : goal.returns-in_err-name
returns-in_err-name c =
    let h = c.in_err-name.ensures in
    stays EncodesImport ImportFault _ c.clone-ahead.ensures c.from_residual-in_err-name.ensures.1
    (both_second EncodesName EncodesNamed NameFault (λ module_name. NamedFault) (λ (i : ImportParts). (i.module_name, (i.name, i.kind))) (name_code (c.unsigned_numbers.ensures 32))
    c.in_ok-module_name.ensures (both_first EncodesName EncodesExternType NameFault (λ name. ExternTypeFault) (λ (p : List ℕ × ℕ). p) (h.1, h.2)))

pub returns-in_err-kind : goal.returns-in_err-kind
returns-in_err-kind c =
    let code = name_code (c.unsigned_numbers.ensures 32) in
    stays EncodesImport ImportFault _ c.clone-ahead.ensures c.from_residual-in_err-kind.ensures.1
    (both_second EncodesName EncodesNamed NameFault (λ module_name. NamedFault) (λ (i : ImportParts). (i.module_name, (i.name, i.kind))) code c.in_ok-module_name.ensures
    (both_second EncodesName EncodesExternType NameFault (λ name. ExternTypeFault) (λ (p : List ℕ × ℕ). p) code c.in_ok-name.ensures c.in_err-kind.ensures))

pub returns : goal.returns
returns c =
    advances EncodesImport c.clone-ahead.ensures
    (both_read EncodesName EncodesNamed c.in_ok-module_name.ensures (both_read EncodesName EncodesExternType c.in_ok-name.ensures c.in_ok-kind.ensures))
