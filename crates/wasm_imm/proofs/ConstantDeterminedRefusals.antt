use Rattle.std.proofs.Common.{ℕ, sym, ◌∙◌}
use Rattle.wasm_below.specs.Fault.{DeterminesRefusal}
use Rattle.wasm_below.specs.Source.{EndsWithin}
use Rattle.wasm_imm.specs.Vectors.{LanesFault}

pub lanes_determines : DeterminesRefusal LanesFault
lanes_determines m k r a b h q = (h.0 ∙ sym q.0, h.1 ∙ sym q.1)

pub within_determines : (n : ℕ) → DeterminesRefusal (EndsWithin n)
within_determines n m k r a b h q = (h.0 ∙ sym q.0, h.1 ∙ sym q.1)
