use Rattle.wasm_below.specs.Source.{IsByte, EndFault}
use Rattle.wasm_module.specs.Types.{EncodesAfterByte, FaultAfterByte, EncodesComposite, CompositeFault, EncodesIndices, IndicesFault, EncodesWithSupertypes, WithSupertypesFault}
use Rattle.wasm_below.proofs.Ahead.{first_fails, second_fails, failed}
use Rattle.wasm_below.proofs.PrefixCode.{byte_prefix_code}
use Rattle.wasm_module.proofs.Composites.{indices_code}
use Rattle.wasm_module.proofs.Sequences.{then_read}
use Rattle.wasm_module.proofs.composite.read_with_supertypes.Goals as goal

pub returns-in_err-read_length : goal.returns-in_err-read_length
returns-in_err-read_length c =
    failed EncodesWithSupertypes WithSupertypesFault _ _ c.from_residual.ensures.1
    (first_fails EncodesIndices (λ supertypes. EncodesComposite) IndicesFault (λ supertypes. CompositeFault) c.in_err-read_length.ensures)

pub returns-in_err-kind : goal.returns-in_err-kind
returns-in_err-kind c =
    let h = c.in_err-kind.ensures in
    failed EncodesWithSupertypes WithSupertypesFault _ _ c.from_residual-in_err-kind.ensures.1
    (second_fails EncodesIndices (λ supertypes. EncodesComposite) IndicesFault (λ supertypes. CompositeFault) (indices_code (c.unsigned_numbers.ensures 32))
    c.in_ok-read_length.ensures (first_fails IsByte EncodesAfterByte EndFault FaultAfterByte (h.1, h.2)))

pub returns-in_err-ty : goal.returns-in_err-ty
returns-in_err-ty c =
    failed EncodesWithSupertypes WithSupertypesFault _ _ c.from_residual-in_err-ty.ensures.1
    (second_fails EncodesIndices (λ supertypes. EncodesComposite) IndicesFault (λ supertypes. CompositeFault) (indices_code (c.unsigned_numbers.ensures 32))
    c.in_ok-read_length.ensures (second_fails IsByte EncodesAfterByte EndFault FaultAfterByte byte_prefix_code c.in_ok-kind.ensures c.in_err-ty.ensures))

pub returns : goal.returns
returns c =
    then_read EncodesIndices (λ supertypes. EncodesComposite) c.in_ok-read_length.ensures
    (then_read IsByte EncodesAfterByte c.in_ok-kind.ensures c.in_ok-ty.ensures)
