use Rattle.wasm_operators.specs.Next.{all_operators}
use Rattle.wasm_operators.specs.Visiting.{Visited}
use Rattle.wasm_operators.proofs.Clauses.{runs_rest, runs_flat, runs_within_depth}
use Rattle.wasm_operators.proofs.DecoderPremises.{keeps_all, is_reading}
use Rattle.wasm_operators.proofs.Premises.{Everything}
use Rattle.wasm_operators.proofs.operators.OperatorsReader.visit_all_simd.Goals as goal

pub returns-clause-rest : goal.returns-clause-rest
returns-clause-rest g c =
    runs_rest all_operators (Visited g.V.Visitor.visits c.args.v.now c.visit_to_end.new.v) Everything (λ placed h. tt) keeps_all
    is_reading c.visit_to_end.result c.args.self.now c.visit_to_end.new.self c.visit_to_end.ensures

pub returns-clause-flat : goal.returns-clause-flat
returns-clause-flat g c =
    runs_flat all_operators (Visited g.V.Visitor.visits c.args.v.now c.visit_to_end.new.v) Everything (λ placed h. tt) keeps_all
    c.visit_to_end.result c.args.self.now c.visit_to_end.new.self c.visit_to_end.ensures

pub returns-clause-depth : goal.returns-clause-depth
returns-clause-depth g c =
    runs_within_depth all_operators (Visited g.V.Visitor.visits c.args.v.now c.visit_to_end.new.v) c.visit_to_end.result c.args.self.now c.visit_to_end.new.self c.visit_to_end.ensures
