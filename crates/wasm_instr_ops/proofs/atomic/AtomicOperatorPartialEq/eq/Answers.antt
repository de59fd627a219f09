-- Written by tools/lists.py from tools/operators.tsv.
use Rattle.std.proofs.Common.{sym, ap, ◌∙◌}
use Rattle.wasm_instr_ops.specs.Atomic.{atomic_fields}
use Rattle.wasm_instr_ops.proofs.AtomicByOpcode.{atomic_same}
use Rattle.wasm_instr_ops.proofs.atomic.AtomicOperatorPartialEq.eq.Goals as goal

pub returns-then-code-clause-same : goal.returns-then-code-clause-same
returns-then-code-clause-same c =
    let codes = sym c.code.ensures ∙ c.if-code.true ∙ c.code-2.ensures in
    let one = c.fields.ensures in
    let two = c.fields-then-code.ensures in
    let same = c.is.ensures.same in
    (λ t. atomic_same c.args.self.now c.args.other.now codes (sym one ∙ same.0 t ∙ two), λ e. same.1 (one ∙ ap atomic_fields e ∙ sym two))
