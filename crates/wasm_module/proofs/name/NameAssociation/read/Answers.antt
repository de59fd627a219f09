use Rattle.wasm_below.specs.Number.{EncodesUnsigned}
use Rattle.wasm_below.specs.Source.{U32Fault}
use Rattle.wasm_module.specs.Names.{EncodesName, NameFault, NameParts, EncodesNameAssociation, NameAssociationFault}
use Rattle.wasm_below.proofs.Ahead.{stays, advances}
use Rattle.wasm_module.proofs.Sequences.{both_read, both_first, both_second}
use Rattle.wasm_module.proofs.name.NameAssociation.read.Goals as goal

pub returns-in_err-index : goal.returns-in_err-index
returns-in_err-index c =
    let h = c.in_err-index.ensures in
    stays EncodesNameAssociation NameAssociationFault _ c.clone-ahead.ensures c.from_residual.ensures.1
    (both_first (EncodesUnsigned 32) EncodesName U32Fault (λ index. NameFault) (λ (a : NameParts). (a.index, a.name)) (h.1, h.2))

pub returns-in_err-name : goal.returns-in_err-name
returns-in_err-name c =
    let h = c.in_err-name.ensures in
    stays EncodesNameAssociation NameAssociationFault _ c.clone-ahead.ensures c.from_residual-in_err-name.ensures.1
    (both_second (EncodesUnsigned 32) EncodesName U32Fault (λ index. NameFault) (λ (a : NameParts). (a.index, a.name)) (c.unsigned_numbers.ensures 32) c.in_ok-index.ensures
    (h.1, h.2))

pub returns : goal.returns
returns c =
    advances EncodesNameAssociation c.clone-ahead.ensures
    (both_read (EncodesUnsigned 32) EncodesName c.in_ok-index.ensures c.in_ok-name.ensures)
