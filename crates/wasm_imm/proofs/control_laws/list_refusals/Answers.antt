use Rattle.wasm_imm.proofs.DeterminedControlRefusals.{list_determines_alone}
use Rattle.wasm_imm.proofs.control_laws.list_refusals.Goals as goal

pub returns : goal.returns
returns g c = λ name limit features.
    list_determines_alone name limit (g.T.FromReader.encodes features) g.T.FromReader.fault
    (λ a b x y m n p q e. (c.is_prefix_code.ensures features a b x y m n p q e).0) c.determines_refusal.ensures
