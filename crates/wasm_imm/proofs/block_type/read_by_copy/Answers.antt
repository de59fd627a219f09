use Rattle.std.proofs.Common.{ap, ◌∙◌}
use Rattle.wasm_below.specs.Source.{at_position}
use Rattle.wasm_below.proofs.TakesLemmas.{read_by_copy}
use Rattle.wasm_imm.specs.BlockTypes.{EncodesBlockType}
use Rattle.wasm_imm.specs.BlockTypeFaults.{BlockTypeFault}
use Rattle.wasm_imm.proofs.block_type.read_by_copy.Goals as goal

pub returns : goal.returns
returns c =
    read_by_copy EncodesBlockType BlockTypeFault c.read_other-outcome.result c.args.reader.now c.clone-copy.result c.read_other-outcome.new.reader c.set_position.new.self
    c.clone-copy.ensures c.read_other-outcome.ensures (c.set_position.ensures ∙ ap (at_position c.args.reader.now) c.current_position.ensures)
