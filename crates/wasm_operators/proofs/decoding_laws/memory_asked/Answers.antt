use Rattle.wasm_operators.specs.Next.{all_operators, scalar_operators}
use Rattle.wasm_operators.proofs.DecoderPremises.{is_reading, scalar_is_reading}
use Rattle.wasm_operators.proofs.MemoryLemmas.{memory_needs, run_needs}
use Rattle.wasm_operators.proofs.decoding_laws.memory_asked.Goals as goal

pub returns-clause-read : goal.returns-clause-read
returns-clause-read c = memory_needs all_operators is_reading

pub returns-clause-scalar_read : goal.returns-clause-scalar_read
returns-clause-scalar_read c = memory_needs scalar_operators scalar_is_reading

pub returns-clause-visits : goal.returns-clause-visits
returns-clause-visits c = run_needs all_operators is_reading

pub returns-clause-scalar_visits : goal.returns-clause-scalar_visits
returns-clause-scalar_visits c = run_needs scalar_operators scalar_is_reading
