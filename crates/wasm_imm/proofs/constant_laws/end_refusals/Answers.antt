use Rattle.wasm_below.proofs.DeterminedRefusals.{end_determines}
use Rattle.wasm_imm.proofs.ConstantDeterminedRefusals.{within_determines, lanes_determines}
use Rattle.wasm_imm.proofs.constant_laws.end_refusals.Goals as goal

pub returns-clause-byte : goal.returns-clause-byte
returns-clause-byte c = end_determines

pub returns-clause-block : goal.returns-clause-block
returns-clause-block c = within_determines

pub returns-clause-lanes : goal.returns-clause-lanes
returns-clause-lanes c = lanes_determines
