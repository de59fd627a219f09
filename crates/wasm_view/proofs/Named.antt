use Rattle.std.proofs.Common.{◌≡◌, ℕ, ◌+◌, ◌*◌, refl, ap, ◌∙◌}
use Rattle.wasm_instr_ops.specs.Atomic.{atomic_subopcode, atomic_name}
use Rattle.wasm_instr_ops.specs.Gc.{gc_subopcode, gc_name}
use Rattle.wasm_instr_ops.specs.Misc.{misc_subopcode, misc_name}
use Rattle.wasm_instr_ops.specs.Numeric.{numeric_opcode, numeric_name}
use Rattle.wasm_instr_simd.specs.Simd.{simd_subopcode, simd_name}
use Rattle.wasm_instr.specs.Row.{prefix_of, opcode_of, immediates_of, name_of}
use Rattle.wasm_instr.specs.declared.operator.Operator.{Operator}
use Rattle.wasm_instr.specs.declared.operator.Operator.TheVariants as operator
use Rattle.wasm_instr_ops.specs.declared.atomic.AtomicOperator.{AtomicOperator}
use Rattle.wasm_instr_ops.specs.declared.atomic.AtomicOperator.TheVariants as atomic
use Rattle.wasm_instr_ops.specs.declared.gc.GcOperator.{GcOperator}
use Rattle.wasm_instr_ops.specs.declared.gc.GcOperator.TheVariants as gc
use Rattle.wasm_instr_ops.specs.declared.misc.MiscOperator.{MiscOperator}
use Rattle.wasm_instr_ops.specs.declared.misc.MiscOperator.TheVariants as misc
use Rattle.wasm_instr_ops.specs.declared.numeric.NumericOperator.{NumericOperator}
use Rattle.wasm_instr_ops.specs.declared.numeric.NumericOperator.TheVariants as numeric
use Rattle.wasm_instr_simd.specs.declared.simd.SimdOperator.{SimdOperator}
use Rattle.wasm_instr_simd.specs.declared.simd.SimdOperator.TheVariants as simd
use Rattle.wasm_view.specs.Names.{name_at}
use Rattle.wasm_view.specs.View.{opcode_number, view_of}
use Rattle.wasm_view.proofs.Immediates.{view_opcode}

numeric_named : (op : NumericOperator) (shape : ℕ) → name_at (numeric_opcode op) shape ≡ numeric_name op
numeric_named numeric.I32Eqz shape = refl
numeric_named _ shape = refl

gc_named : (op : GcOperator) (shape : ℕ) → name_at (65536 * 0xfb + gc_subopcode op) shape ≡ gc_name op
gc_named (gc.StructNew ty) shape = refl
gc_named _ shape = refl

misc_named : (op : MiscOperator) (shape : ℕ) → name_at (65536 * 0xfc + misc_subopcode op) shape ≡ misc_name op
misc_named misc.I32TruncSatF32S shape = refl
misc_named _ shape = refl

simd_named : (op : SimdOperator) (shape : ℕ) → name_at (65536 * 0xfd + simd_subopcode op) shape ≡ simd_name op
simd_named (simd.V128Load memarg) shape = refl
simd_named _ shape = refl

atomic_named : (op : AtomicOperator) (shape : ℕ) → name_at (65536 * 0xfe + atomic_subopcode op) shape ≡ atomic_name op
atomic_named (atomic.MemoryAtomicNotify memarg) shape = refl
atomic_named _ shape = refl

abbrev HasShape : Operator → ℕ → Type 0
HasShape (operator.TypedSelect ty) shape = shape ≡ 19
HasShape (operator.TypedSelectMulti tys) shape = shape ≡ 20
HasShape _ shape = Unit {0}

has_shape : (op : Operator) (offset : ℕ) → HasShape op (view_of (op, offset)).shape
has_shape (operator.TypedSelect ty) offset = refl
has_shape (operator.TypedSelectMulti tys) offset = refl
has_shape _ offset = tt

named : (op : Operator) (shape : ℕ) → HasShape op shape → name_at (opcode_number (prefix_of op) (opcode_of op)) shape ≡ name_of op
named (operator.TypedSelect ty) shape is = ap (name_at 0x1c) is
named (operator.TypedSelectMulti tys) shape is = ap (name_at 0x1c) is
named (operator.Numeric op) shape has = numeric_named op shape
named (operator.Gc op) shape has = gc_named op shape
named (operator.Misc op) shape has = misc_named op shape
named (operator.Simd op) shape has = simd_named op shape
named (operator.Atomic op) shape has = atomic_named op shape
named _ shape has = refl

pub name_agrees : (op : Operator) (offset : ℕ) → name_at (view_of (op, offset)).opcode (view_of (op, offset)).shape ≡ name_of op
name_agrees op offset =
    let number = view_opcode offset (opcode_number (prefix_of op) (opcode_of op)) (immediates_of op) in
    ap (λ n. name_at n (view_of (op, offset)).shape) number ∙ named op (view_of (op, offset)).shape (has_shape op offset)
