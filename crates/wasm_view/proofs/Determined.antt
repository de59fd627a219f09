use Rattle.std.proofs.Common.{◌≡◌, ◌⊎◌, ℕ, inl, inr, refl, sym, ap, ◌∙◌, arith}
use Rattle.wasm_instr_ops.specs.Gc.{gc_immediates}
use Rattle.wasm_instr_ops.specs.Misc.{misc_immediates}
use Rattle.wasm_instr_simd.specs.Simd.{simd_immediates}
use Rattle.wasm_instr_ops.specs.Atomic.{atomic_immediates}
use Rattle.wasm_instr.specs.Kinds.{IsTypedSelect}
use Rattle.wasm_instr.specs.Row.{prefix_of, opcode_of, immediates_of, name_of}
use Rattle.wasm_instr.specs.declared.operator.Operator.{Operator}
use Rattle.wasm_instr.specs.declared.operator.Operator.TheVariants as operator
use Rattle.wasm_instr_ops.specs.declared.atomic.AtomicOperator.{AtomicOperator}
use Rattle.wasm_instr_ops.specs.declared.atomic.AtomicOperator.TheVariants as atomic
use Rattle.wasm_instr_ops.specs.declared.gc.GcOperator.{GcOperator}
use Rattle.wasm_instr_ops.specs.declared.gc.GcOperator.TheVariants as gc
use Rattle.wasm_instr_ops.specs.declared.misc.MiscOperator.{MiscOperator}
use Rattle.wasm_instr_ops.specs.declared.misc.MiscOperator.TheVariants as misc
use Rattle.wasm_instr_simd.specs.declared.simd.SimdOperator.{SimdOperator}
use Rattle.wasm_instr_simd.specs.declared.simd.SimdOperator.TheVariants as simd
use Rattle.wasm_instr.proofs.SharedOpcodes.{shared}
use Rattle.wasm_view.specs.Determined.{IsWhole}
use Rattle.wasm_view.specs.View.{opcode_number, view_of}
use Rattle.wasm_view.specs.declared.view.WasmOperator.{WasmOperator}
use Rattle.wasm_view.proofs.Immediates.{AreWhole, same_immediates, view_offset, view_opcode}
use Rattle.wasm_view.proofs.ByNumber.{same_opcode, same_kinds, same_operator}

gc_whole : (op : GcOperator) → AreWhole (gc_immediates op)
gc_whole (gc.StructNew ty) = tt
gc_whole _ = tt

misc_whole : (op : MiscOperator) → AreWhole (misc_immediates op)
misc_whole misc.I32TruncSatF32S = tt
misc_whole _ = tt

simd_whole : (op : SimdOperator) → AreWhole (simd_immediates op)
simd_whole (simd.V128Load memarg) = tt
simd_whole _ = tt

atomic_whole : (op : AtomicOperator) → AreWhole (atomic_immediates op)
atomic_whole (atomic.MemoryAtomicNotify memarg) = tt
atomic_whole _ = tt

whole : (op : Operator) → IsWhole op → AreWhole (immediates_of op)
whole (operator.BrTable t) w = w
whole (operator.TypedSelectMulti tys) w = w
whole (operator.TryTable t) w = w
whole (operator.Resume ty t) w = w
whole (operator.ResumeThrow ty tag t) w = w
whole (operator.ResumeThrowRef ty t) w = w
whole (operator.I32Const n) w = w
whole (operator.I64Const n) w = w
whole (operator.Gc op) w = gc_whole op
whole (operator.Misc op) w = misc_whole op
whole (operator.Simd op) w = simd_whole op
whole (operator.Atomic op) w = atomic_whole op
whole _ w = tt

number_of : (op : Operator) (offset : ℕ) → (view_of (op, offset)).opcode ≡ opcode_number (prefix_of op) (opcode_of op)
number_of op offset = view_opcode offset (opcode_number (prefix_of op) (opcode_of op)) (immediates_of op)

codes : (op other : Operator) (offset at : ℕ) → view_of (op, offset) ≡ view_of (other, at) → (prefix_of op ≡ prefix_of other) × (opcode_of op ≡ opcode_of other)
codes op other offset at same =
    same_opcode op other (sym (number_of op offset) ∙ ap (λ (v : WasmOperator). v.opcode) same ∙ number_of other at)

pub offsets : (op other : Operator) (offset at : ℕ) → view_of (op, offset) ≡ view_of (other, at) → offset ≡ at
offsets op other offset at same =
    sym (view_offset offset (opcode_number (prefix_of op) (opcode_of op)) (immediates_of op)) ∙ ap (λ (v : WasmOperator). v.offset) same ∙
    view_offset at (opcode_number (prefix_of other) (opcode_of other)) (immediates_of other)

selects : (op other : Operator) (offset at : ℕ) → IsTypedSelect op → IsTypedSelect other → view_of (op, offset) ≡ view_of (other, at) → name_of op ≡ name_of other
selects (operator.TypedSelect _) (operator.TypedSelect _) offset at s t same = refl
selects (operator.TypedSelectMulti _) (operator.TypedSelectMulti _) offset at s t same = refl
selects (operator.TypedSelect _) (operator.TypedSelectMulti _) offset at s t same = absurd (omega (arith, ap (λ (v : WasmOperator). v.shape) same))
selects (operator.TypedSelectMulti _) (operator.TypedSelect _) offset at s t same = absurd (omega (arith, ap (λ (v : WasmOperator). v.shape) same))
selects (operator.TypedSelect _) _ offset at s t same = absurd t
selects (operator.TypedSelectMulti _) _ offset at s t same = absurd t
selects _ other offset at s t same = absurd s

pub named : (op other : Operator) (offset at : ℕ) → view_of (op, offset) ≡ view_of (other, at) → name_of op ≡ name_of other
named op other offset at same = go (shared op other (codes op other offset at same).0 (codes op other offset at same).1)
  where
    go : (name_of op ≡ name_of other) ⊎ (IsTypedSelect op × IsTypedSelect other) → name_of op ≡ name_of other
    go (inl name) = name
    go (inr (s, t)) = selects op other offset at s t same

pub one_of : (op other : Operator) (offset at : ℕ) → IsWhole op → IsWhole other → view_of (op, offset) ≡ view_of (other, at) → op ≡ other
one_of op other offset at w x same =
    let c = codes op other offset at same in
    same_operator op other c.0 c.1 (same_immediates offset (opcode_number (prefix_of op) (opcode_of op)) at (opcode_number (prefix_of other) (opcode_of other))
    (immediates_of op) (immediates_of other) (whole op w) (whole other x) (same_kinds op other c.0 c.1) same)
