use Rattle.std.specs.Prelude.{◌≡◌, ◌⊎◌}
use Rattle.wasm_imm.specs.declared.proposal.Proposal.TheVariants as proposal
use Rattle.wasm_instr.specs.declared.operator.Operator.{Operator}
use Rattle.wasm_instr.specs.declared.operator.Operator.TheVariants as operator
use Rattle.wasm_instr.specs.Row.{proposal_of}

-- The operator's proposal is simd or relaxed_simd.
abbrev pub HasSimdProposal : Operator → Type 0
HasSimdProposal op = (proposal_of op ≡ proposal.Simd) ⊎ (proposal_of op ≡ proposal.RelaxedSimd)

-- The operator's variant is Simd.
abbrev pub IsSimd : Operator → Type 0
IsSimd (operator.Simd _) = Unit {0}
IsSimd _ = ⊥

-- The operator owns a list.
abbrev pub HoldsList : Operator → Type 0
HoldsList (operator.TypedSelectMulti _) = Unit {0}
HoldsList (operator.TryTable _) = Unit {0}
HoldsList (operator.Resume _ _) = Unit {0}
HoldsList (operator.ResumeThrow _ _ _) = Unit {0}
HoldsList (operator.ResumeThrowRef _ _) = Unit {0}
HoldsList _ = ⊥

-- `TypedSelect` or `TypedSelectMulti`, which share an opcode.
abbrev pub IsTypedSelect : Operator → Type 0
IsTypedSelect (operator.TypedSelect _) = Unit {0}
IsTypedSelect (operator.TypedSelectMulti _) = Unit {0}
IsTypedSelect _ = ⊥
