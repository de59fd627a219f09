use Rattle.wasm_operators.proofs.Runs.{fresh_before}
use Rattle.wasm_operators.proofs.operators.OperatorsReader.new.Goals as goal

pub returns-clause-read_so_far : goal.returns-clause-read_so_far
returns-clause-read_so_far c = fresh_before _ c.with_frame.ensures.frames
