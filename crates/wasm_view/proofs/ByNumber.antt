use Rattle.std.proofs.Common.{◌≡◌, ℕ, ◌<◌, List, [], Option, Some, None, map, refl, sym, ap, ◌∙◌, arith, lit<}
use Rattle.wasm_imm.specs.Immediate.{Kind, kind_of}
use Rattle.wasm_instr_ops.specs.Atomic.{atomic_subopcode}
use Rattle.wasm_instr_ops.specs.Gc.{gc_subopcode}
use Rattle.wasm_instr_ops.specs.Misc.{misc_subopcode}
use Rattle.wasm_instr_ops.specs.Numeric.{numeric_opcode}
use Rattle.wasm_instr_simd.specs.Simd.{simd_subopcode}
use Rattle.wasm_instr.specs.Row.{prefix_of, opcode_of, immediates_of}
use Rattle.wasm_instr.specs.declared.operator.Operator.{Operator}
use Rattle.wasm_instr.specs.declared.operator.Operator.TheVariants as operator
use Rattle.wasm_instr_ops.specs.declared.atomic.AtomicOperator.{AtomicOperator}
use Rattle.wasm_instr_ops.specs.declared.atomic.AtomicOperator.TheVariants as atomic
use Rattle.wasm_instr_ops.specs.declared.gc.GcOperator.{GcOperator}
use Rattle.wasm_instr_ops.specs.declared.gc.GcOperator.TheVariants as gc
use Rattle.wasm_instr_ops.specs.declared.misc.MiscOperator.{MiscOperator}
use Rattle.wasm_instr_ops.specs.declared.misc.MiscOperator.TheVariants as misc
use Rattle.wasm_instr_ops.specs.declared.numeric.NumericOperator.{NumericOperator}
use Rattle.wasm_instr_ops.specs.declared.numeric.NumericOperator.TheVariants as numeric
use Rattle.wasm_instr_simd.specs.declared.simd.SimdOperator.{SimdOperator}
use Rattle.wasm_instr_simd.specs.declared.simd.SimdOperator.TheVariants as simd
use Rattle.wasm_instr.proofs.OperatorPrefixCode.{operator_at}
use Rattle.wasm_view.specs.View.{opcode_number}

numeric_again : (op : NumericOperator) → operator_at (prefix_of (operator.Numeric op)) (numeric_opcode op) (immediates_of (operator.Numeric op)) ≡ operator.Numeric op
numeric_again numeric.I32Eqz = refl
numeric_again _ = refl

gc_again : (op : GcOperator) → operator_at (prefix_of (operator.Gc op)) (gc_subopcode op) (immediates_of (operator.Gc op)) ≡ operator.Gc op
gc_again (gc.StructNew ty) = refl
gc_again _ = refl

misc_again : (op : MiscOperator) → operator_at (prefix_of (operator.Misc op)) (misc_subopcode op) (immediates_of (operator.Misc op)) ≡ operator.Misc op
misc_again misc.I32TruncSatF32S = refl
misc_again _ = refl

simd_again : (op : SimdOperator) → operator_at (prefix_of (operator.Simd op)) (simd_subopcode op) (immediates_of (operator.Simd op)) ≡ operator.Simd op
simd_again (simd.V128Load memarg) = refl
simd_again _ = refl

atomic_again : (op : AtomicOperator) → operator_at (prefix_of (operator.Atomic op)) (atomic_subopcode op) (immediates_of (operator.Atomic op)) ≡ operator.Atomic op
atomic_again (atomic.MemoryAtomicNotify memarg) = refl
atomic_again _ = refl

again : (op : Operator) → operator_at (prefix_of op) (opcode_of op) (immediates_of op) ≡ op
again (operator.Numeric op) = numeric_again op
again (operator.Gc op) = gc_again op
again (operator.Misc op) = misc_again op
again (operator.Simd op) = simd_again op
again (operator.Atomic op) = atomic_again op
again _ = refl

abbrev kinds_at : Option ℕ → ℕ → List Kind
kinds_at prefix code = map kind_of (immediates_of (operator_at prefix code []))

numeric_kinds : (op : NumericOperator) → map kind_of (immediates_of (operator.Numeric op)) ≡ kinds_at (prefix_of (operator.Numeric op)) (numeric_opcode op)
numeric_kinds numeric.I32Eqz = refl
numeric_kinds _ = refl

gc_kinds : (op : GcOperator) → map kind_of (immediates_of (operator.Gc op)) ≡ kinds_at (prefix_of (operator.Gc op)) (gc_subopcode op)
gc_kinds (gc.StructNew ty) = refl
gc_kinds _ = refl

misc_kinds : (op : MiscOperator) → map kind_of (immediates_of (operator.Misc op)) ≡ kinds_at (prefix_of (operator.Misc op)) (misc_subopcode op)
misc_kinds misc.I32TruncSatF32S = refl
misc_kinds _ = refl

simd_kinds : (op : SimdOperator) → map kind_of (immediates_of (operator.Simd op)) ≡ kinds_at (prefix_of (operator.Simd op)) (simd_subopcode op)
simd_kinds (simd.V128Load memarg) = refl
simd_kinds _ = refl

atomic_kinds : (op : AtomicOperator) → map kind_of (immediates_of (operator.Atomic op)) ≡ kinds_at (prefix_of (operator.Atomic op)) (atomic_subopcode op)
atomic_kinds (atomic.MemoryAtomicNotify memarg) = refl
atomic_kinds _ = refl

kinds_by_opcode : (op : Operator) → map kind_of (immediates_of op) ≡ kinds_at (prefix_of op) (opcode_of op)
kinds_by_opcode (operator.Numeric op) = numeric_kinds op
kinds_by_opcode (operator.Gc op) = gc_kinds op
kinds_by_opcode (operator.Misc op) = misc_kinds op
kinds_by_opcode (operator.Simd op) = simd_kinds op
kinds_by_opcode (operator.Atomic op) = atomic_kinds op
kinds_by_opcode _ = refl

numeric_small : (op : NumericOperator) → numeric_opcode op < 65536
numeric_small numeric.I32Eqz = lit< tt
numeric_small _ = lit< tt

gc_small : (op : GcOperator) → gc_subopcode op < 65536
gc_small (gc.StructNew ty) = lit< tt
gc_small _ = lit< tt

misc_small : (op : MiscOperator) → misc_subopcode op < 65536
misc_small misc.I32TruncSatF32S = lit< tt
misc_small _ = lit< tt

simd_small : (op : SimdOperator) → simd_subopcode op < 65536
simd_small (simd.V128Load memarg) = lit< tt
simd_small _ = lit< tt

atomic_small : (op : AtomicOperator) → atomic_subopcode op < 65536
atomic_small (atomic.MemoryAtomicNotify memarg) = lit< tt
atomic_small _ = lit< tt

small : (op : Operator) → opcode_of op < 65536
small (operator.Numeric op) = numeric_small op
small (operator.Gc op) = gc_small op
small (operator.Misc op) = misc_small op
small (operator.Simd op) = simd_small op
small (operator.Atomic op) = atomic_small op
small _ = lit< tt

abbrev IsPrefix : Option ℕ → Type 0
IsPrefix None = Unit {0}
IsPrefix (Some prefix) = 0 < prefix

prefixed : (op : Operator) → IsPrefix (prefix_of op)
prefixed operator.Unreachable = tt
prefixed (operator.Gc op) = lit< tt
prefixed (operator.Misc op) = lit< tt
prefixed (operator.Simd op) = lit< tt
prefixed (operator.Atomic op) = lit< tt
prefixed _ = tt

number_parts : (p q : Option ℕ) (c d : ℕ) → IsPrefix p → IsPrefix q → c < 65536 → d < 65536 → opcode_number p c ≡ opcode_number q d → (p ≡ q) × (c ≡ d)
number_parts None None c d s t a b e = (refl, e)
number_parts None (Some q) c d s t a b e = absurd (omega (arith, e, a, t))
number_parts (Some p) None c d s t a b e = absurd (omega (arith, e, b, s))
number_parts (Some p) (Some q) c d s t a b e =
    let prefix : p ≡ q = omega (arith, e, a, b) in
    let code : c ≡ d = omega (arith, e, a, b) in
    (ap Some prefix, code)

pub same_opcode : (op other : Operator) → opcode_number (prefix_of op) (opcode_of op) ≡ opcode_number (prefix_of other) (opcode_of other) →
    (prefix_of op ≡ prefix_of other) × (opcode_of op ≡ opcode_of other)
same_opcode op other e = number_parts (prefix_of op) (prefix_of other) (opcode_of op) (opcode_of other) (prefixed op) (prefixed other) (small op) (small other) e

pub same_kinds : (op other : Operator) → prefix_of op ≡ prefix_of other → opcode_of op ≡ opcode_of other →
    map kind_of (immediates_of op) ≡ map kind_of (immediates_of other)
same_kinds op other p c =
    kinds_by_opcode op ∙ ap (λ q. kinds_at q (opcode_of op)) p ∙ ap (kinds_at (prefix_of other)) c ∙ sym (kinds_by_opcode other)

pub same_operator : (op other : Operator) → prefix_of op ≡ prefix_of other → opcode_of op ≡ opcode_of other → immediates_of op ≡ immediates_of other → op ≡ other
same_operator op other p c is =
    sym (again op) ∙ ap (λ q. operator_at q (opcode_of op) (immediates_of op)) p ∙ ap (λ d. operator_at (prefix_of other) d (immediates_of op)) c ∙
    ap (operator_at (prefix_of other) (opcode_of other)) is ∙ again other
