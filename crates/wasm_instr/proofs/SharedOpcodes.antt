use Rattle.std.proofs.Common.{◌≡◌, ◌⊎◌, inl, inr, Bool, true, false, cond, [], refl, sym, ap, ◌∙◌}
use Rattle.wasm_instr_ops.specs.Numeric.{numeric_opcode}
use Rattle.wasm_instr_ops.proofs.NumericByOpcode.{numeric_at, numeric_named, numeric_range}
use Rattle.wasm_instr_ops.proofs.GcByOpcode.{gc_named}
use Rattle.wasm_instr_ops.proofs.MiscByOpcode.{misc_named}
use Rattle.wasm_instr_ops.proofs.AtomicByOpcode.{atomic_named}
use Rattle.wasm_instr_simd.proofs.SimdByOpcode.{simd_named}
use Rattle.wasm_instr.specs.declared.operator.Operator.{Operator}
use Rattle.wasm_instr.specs.declared.operator.Operator.TheVariants as operator
use Rattle.wasm_instr.specs.Row.{prefix_of, opcode_of, name_of}
use Rattle.wasm_instr.specs.Kinds.{IsTypedSelect}
use Rattle.wasm_instr.proofs.ByOpcode.{own_at}
use Rattle.wasm_instr.proofs.OperatorPrefixCode.{operator_at}

abbrev is_select : Operator → Bool
is_select (operator.TypedSelect _) = true
is_select (operator.TypedSelectMulti _) = true
is_select _ = false

select_by_opcode : (op : Operator) → is_select op ≡ is_select (operator_at (prefix_of op) (opcode_of op) [])
select_by_opcode (operator.Numeric op) = sym
    (ap (λ b. is_select (cond b (operator.Numeric (numeric_at (numeric_opcode op) [])) (own_at (numeric_opcode op) []))) (numeric_range op))
select_by_opcode op = refl

named : (op : Operator) → is_select op ≡ false → name_of op ≡ name_of (operator_at (prefix_of op) (opcode_of op) [])
named (operator.Numeric op) e = numeric_named op ∙
    sym (ap (λ b. name_of (cond b (operator.Numeric (numeric_at (numeric_opcode op) [])) (own_at (numeric_opcode op) []))) (numeric_range op))
named (operator.Gc op) e = gc_named op
named (operator.Misc op) e = misc_named op
named (operator.Simd op) e = simd_named op
named (operator.Atomic op) e = atomic_named op
named (operator.TypedSelect ty) e = absurd (cc e)
named (operator.TypedSelectMulti tys) e = absurd (cc e)
named op e = refl

typed : (op : Operator) → is_select op ≡ true → IsTypedSelect op
typed (operator.TypedSelect ty) e = tt
typed (operator.TypedSelectMulti tys) e = tt
typed op e = absurd (cc e)

pub shared : (op po : Operator) → prefix_of op ≡ prefix_of po → opcode_of op ≡ opcode_of po →
    (name_of op ≡ name_of po) ⊎ (IsTypedSelect op × IsTypedSelect po)
shared op po p c = go (is_select op) refl
  where
    same : operator_at (prefix_of op) (opcode_of op) [] ≡ operator_at (prefix_of po) (opcode_of po) []
    same = ap (λ z. operator_at z (opcode_of op) []) p ∙ ap (λ z. operator_at (prefix_of po) z []) c

    agree : is_select po ≡ is_select op
    agree = select_by_opcode po ∙ ap is_select (sym same) ∙ sym (select_by_opcode op)

    go : (s : Bool) → is_select op ≡ s → (name_of op ≡ name_of po) ⊎ (IsTypedSelect op × IsTypedSelect po)
    go true e = inr (typed op e, typed po (agree ∙ e))
    go false e = inl (named op e ∙ ap name_of same ∙ sym (named po (agree ∙ e)))
