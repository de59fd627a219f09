-- Written by tools/lists.py from tools/operators.tsv.
-- The entries agree with the rows of the operators.
use Rattle.std.proofs.Common.{◌≡◌, ℕ, Option, Some, None, map, refl, sym, ap}
use Rattle.wasm_instr.specs.declared.operator.Operator.{Operator}
use Rattle.wasm_instr.specs.declared.operator.Operator.TheVariants as operator
use Rattle.wasm_instr.specs.Row.{prefix_of, opcode_of}
use Rattle.wasm_instr_ops.specs.declared.numeric.NumericOperator.{NumericOperator}
use Rattle.wasm_instr_ops.specs.declared.numeric.NumericOperator.TheVariants as numeric
use Rattle.wasm_instr_ops.specs.Numeric.{numeric_opcode, numeric_immediates}
use Rattle.wasm_instr_ops.specs.declared.gc.GcOperator.{GcOperator}
use Rattle.wasm_instr_ops.specs.declared.gc.GcOperator.TheVariants as gc
use Rattle.wasm_instr_ops.specs.Gc.{gc_subopcode, gc_immediates}
use Rattle.wasm_instr_ops.specs.declared.misc.MiscOperator.{MiscOperator}
use Rattle.wasm_instr_ops.specs.declared.misc.MiscOperator.TheVariants as misc
use Rattle.wasm_instr_ops.specs.Misc.{misc_subopcode, misc_immediates}
use Rattle.wasm_instr_simd.specs.declared.simd.SimdOperator.{SimdOperator}
use Rattle.wasm_instr_simd.specs.declared.simd.SimdOperator.TheVariants as simd
use Rattle.wasm_instr_simd.specs.Simd.{simd_subopcode, simd_immediates}
use Rattle.wasm_instr_ops.specs.declared.atomic.AtomicOperator.{AtomicOperator}
use Rattle.wasm_instr_ops.specs.declared.atomic.AtomicOperator.TheVariants as atomic
use Rattle.wasm_instr_ops.specs.Atomic.{atomic_subopcode, atomic_immediates}
use Rattle.wasm_imm.specs.Immediate.{kind_of}
use Rattle.wasm_decode_opcodes.specs.Entry.{prefixes, free, entry_of}
use Rattle.wasm_decode_opcodes.specs.Entries.{entry_at}

numeric_agrees : (op : NumericOperator) → entry_at None (numeric_opcode op) ≡ free (map kind_of (numeric_immediates op))
numeric_agrees numeric.I32Eqz = refl
numeric_agrees op = refl

gc_agrees : (op : GcOperator) → entry_at (Some 0xfb) (gc_subopcode op) ≡ free (map kind_of (gc_immediates op))
gc_agrees (gc.StructNew struct_type_index) = refl
gc_agrees op = refl

misc_agrees : (op : MiscOperator) → entry_at (Some 0xfc) (misc_subopcode op) ≡ free (map kind_of (misc_immediates op))
misc_agrees misc.I32TruncSatF32S = refl
misc_agrees op = refl

simd_agrees : (op : SimdOperator) → entry_at (Some 0xfd) (simd_subopcode op) ≡ free (map kind_of (simd_immediates op))
simd_agrees (simd.V128Load memarg) = refl
simd_agrees op = refl

atomic_agrees : (op : AtomicOperator) → entry_at (Some 0xfe) (atomic_subopcode op) ≡ free (map kind_of (atomic_immediates op))
atomic_agrees (atomic.MemoryAtomicNotify memarg) = refl
atomic_agrees op = refl

-- the entry of an operator's opcode has the kinds of the operator's immediates
pub entry_agrees : (op : Operator) → entry_at (prefix_of op) (opcode_of op) ≡ entry_of op
entry_agrees (operator.Numeric op) = numeric_agrees op
entry_agrees (operator.Gc op) = gc_agrees op
entry_agrees (operator.Misc op) = misc_agrees op
entry_agrees (operator.Simd op) = simd_agrees op
entry_agrees (operator.Atomic op) = atomic_agrees op
entry_agrees op = refl

-- the entry of a prefix byte is `prefixes`
pub prefix_agrees : (op : Operator) (p : ℕ) → prefix_of op ≡ Some p → entry_at None p ≡ prefixes
prefix_agrees (operator.Gc op) p e = let h : 0xfb ≡ p = cc e in ap (entry_at None) (sym h)
prefix_agrees (operator.Misc op) p e = let h : 0xfc ≡ p = cc e in ap (entry_at None) (sym h)
prefix_agrees (operator.Simd op) p e = let h : 0xfd ≡ p = cc e in ap (entry_at None) (sym h)
prefix_agrees (operator.Atomic op) p e = let h : 0xfe ≡ p = cc e in ap (entry_at None) (sym h)
prefix_agrees operator.Unreachable p e = absurd (cc e)
prefix_agrees op p e = absurd (cc e)
