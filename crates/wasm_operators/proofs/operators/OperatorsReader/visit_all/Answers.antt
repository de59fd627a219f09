use Rattle.wasm_operators.specs.Next.{scalar_operators}
use Rattle.wasm_operators.specs.Visiting.{VisitedScalar}
use Rattle.wasm_operators.proofs.Clauses.{runs_rest, runs_flat, runs_within_depth}
use Rattle.wasm_operators.proofs.DecoderPremises.{keeps_scalar, scalar_is_reading, refuses_simd}
use Rattle.wasm_operators.proofs.Scalar.{scalar_refused}
use Rattle.wasm_operators.proofs.Premises.{IsNotSimd}
use Rattle.wasm_operators.proofs.operators.OperatorsReader.visit_all.Goals as goal

pub returns-clause-rest : goal.returns-clause-rest
returns-clause-rest g c =
    runs_rest scalar_operators (VisitedScalar g.V.Visitor.visits c.args.v.now c.visit_to_end.new.v) IsNotSimd (λ placed h. h.1) keeps_scalar
    scalar_is_reading c.visit_to_end.result c.args.self.now c.visit_to_end.new.self c.visit_to_end.ensures

pub returns-clause-flat : goal.returns-clause-flat
returns-clause-flat g c =
    runs_flat scalar_operators (VisitedScalar g.V.Visitor.visits c.args.v.now c.visit_to_end.new.v) IsNotSimd (λ placed h. h.1) keeps_scalar
    c.visit_to_end.result c.args.self.now c.visit_to_end.new.self c.visit_to_end.ensures

pub returns-clause-simd : goal.returns-clause-simd
returns-clause-simd g c =
    scalar_refused scalar_operators (VisitedScalar g.V.Visitor.visits c.args.v.now c.visit_to_end.new.v) (λ placed h. h.1) keeps_scalar refuses_simd
    c.visit_to_end.result c.args.self.now c.visit_to_end.new.self c.visit_to_end.ensures

pub returns-clause-depth : goal.returns-clause-depth
returns-clause-depth g c =
    runs_within_depth scalar_operators (VisitedScalar g.V.Visitor.visits c.args.v.now c.visit_to_end.new.v) c.visit_to_end.result c.args.self.now c.visit_to_end.new.self c.visit_to_end.ensures
