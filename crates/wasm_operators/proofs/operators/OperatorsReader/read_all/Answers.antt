use Rattle.wasm_operators.specs.Reading.{Adds}
use Rattle.wasm_operators.proofs.Clauses.{runs_rest, runs_flat, runs_within_depth}
use Rattle.wasm_operators.proofs.CollectedLemmas.{collected_runs}
use Rattle.wasm_operators.proofs.DecoderPremises.{keeps_all, is_reading}
use Rattle.wasm_operators.proofs.Premises.{Everything}
use Rattle.wasm_operators.specs.Next.{collecting}
use Rattle.wasm_operators.proofs.operators.OperatorsReader.read_all.Goals as goal

pub returns-clause-runs : goal.returns-clause-runs
returns-clause-runs c =
    collected_runs collecting c.read_to_end.result c.args.self.now c.read_to_end.new.self c.args.out.now.items
    c.read_to_end.new.out.items c.read_to_end.ensures.runs

pub returns-clause-rest : goal.returns-clause-rest
returns-clause-rest c =
    let runs = collected_runs collecting c.read_to_end.result c.args.self.now c.read_to_end.new.self c.args.out.now.items
    c.read_to_end.new.out.items c.read_to_end.ensures.runs in
    runs_rest collecting (Adds c.args.out.now.items c.read_to_end.new.out.items) Everything (λ placed h. tt) keeps_all
    is_reading c.read_to_end.result c.args.self.now c.read_to_end.new.self runs

pub returns-clause-flat : goal.returns-clause-flat
returns-clause-flat c =
    let runs = collected_runs collecting c.read_to_end.result c.args.self.now c.read_to_end.new.self c.args.out.now.items
    c.read_to_end.new.out.items c.read_to_end.ensures.runs in
    runs_flat collecting (Adds c.args.out.now.items c.read_to_end.new.out.items) Everything (λ placed h. tt) keeps_all
    c.read_to_end.result c.args.self.now c.read_to_end.new.self runs

pub returns-clause-depth : goal.returns-clause-depth
returns-clause-depth c =
    let runs = collected_runs collecting c.read_to_end.result c.args.self.now c.read_to_end.new.self c.args.out.now.items
    c.read_to_end.new.out.items c.read_to_end.ensures.runs in
    runs_within_depth collecting (Adds c.args.out.now.items c.read_to_end.new.out.items) c.read_to_end.result c.args.self.now
    c.read_to_end.new.self runs
