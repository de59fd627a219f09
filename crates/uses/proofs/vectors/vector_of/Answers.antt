use Rattle.std.proofs.Common.{ap, ◌∙◌}
use Rattle.std.specs.Int.{w128, from_le_bytes}
use Rattle.uses.proofs.vectors.vector_of.Goals as goal

pub returns : goal.returns
returns c = ap (from_le_bytes w128) c.from.ensures ∙ c.number_restored.ensures
