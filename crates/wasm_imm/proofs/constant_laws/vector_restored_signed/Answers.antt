use Rattle.std.proofs.Common.{ap, ◌∙◌}
use Rattle.std.specs.Int.{w128, to_le_bytes, from_le_bytes}
use Rattle.std.proofs.lemmas.Int.{of_z-to_z}
use Rattle.wasm_imm.proofs.Sixteen.{bytes_restored, bytes_fit}
use Rattle.wasm_imm.proofs.constant_laws.vector_restored_signed.Goals as goal

pub returns : goal.returns
returns c = λ bytes l all. ap (to_le_bytes w128) (of_z-to_z w128 (from_le_bytes w128 bytes) (bytes_fit bytes l all)) ∙ bytes_restored bytes l all
