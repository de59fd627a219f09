use Rattle.wasm_below.proofs.DeterminedRefusals.{reader_determines}
use Rattle.wasm_below.proofs.byte_laws.part_refusals.Goals as goal

pub returns : goal.returns
returns c = reader_determines
