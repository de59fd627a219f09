use Rattle.std.proofs.Common.{sym, subst, ◌∙◌}
use Rattle.wasm_instr.specs.Row.{immediates_of}
use Rattle.wasm_encode_immediates.specs.Reasons.{HaveReason}
use Rattle.wasm_encode_immediates.proofs.Sequences.{only_members}
use Rattle.wasm_encode_operators.proofs.Operators.{operator_written, operator_fails, cut_off}
use Rattle.wasm_encode_operators.proofs.operator.write_enabled.Goals as goal

pub returns-in-Ok-clause-written : goal.returns-in-Ok-clause-written
returns-in-Ok-clause-written c = operator_written c.args.features c.args.op.now _ _ _ c.requires.enabled c.write_opcode.ensures.written c.in-Ok.ensures.0

pub returns-in-Err-clause-written : goal.returns-in-Err-clause-written
returns-in-Err-clause-written c = (
  c.truncate.ensures.items ∙ cut_off _ _ _ _ _ c.len-start.result (sym (c.len-start.ensures ∙ c.args.out.now.ok.0)) c.write_opcode.ensures.written.appended c.in-Err.ensures.0.appended,
  λ some. operator_fails c.args.features c.args.op.now c.in-Err.e _ _ c.in-Err.ensures.0 some,
)

pub returns-in-Err-clause-memory : goal.returns-in-Err-clause-memory
returns-in-Err-clause-memory c = λ m.
    let is = immediates_of c.args.op.now in
    only_members c.args.features is (subst (λ z. HaveReason c.args.features is z) m c.in-Err.ensures.0.reason)
