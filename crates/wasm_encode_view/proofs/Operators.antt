-- From the immediates and the opcode to the operator.
use Rattle.std.proofs.Common.{◌≡◌, ℕ, ◌+◌, ◌*◌, ◌/◌, ◌%◌, ◌<◌, ◌^◌, true, cond, List, [], ◌∷◌, ◌++◌, Option, Some, None, refl, sym, ap, subst, ◌∙◌, arith, lit<, FitsSigned, ℤ, pos, neg_ℤ, ◌≤ℤ◌, ◌<ℤ◌}
use lib.IntN.{negsuc}
use Rattle.std.specs.Int.{w64}
use Rattle.std.proofs.lemmas.Bool.{le-ltb, lt-ltb}
use Rattle.std.proofs.lemmas.Int.{ints}
use Rattle.std.proofs.Math.Nat.{mod-eq_of_lt}
use Rattle.wasm_below.specs.declared.features.WasmFeatures.{WasmFeatures}
use Rattle.wasm_below.proofs.SignedNumbers.{signed_fits}
use Rattle.wasm_imm.specs.Immediate.{EncodesImmediates}
use Rattle.wasm_instr_ops.specs.Atomic.{atomic_subopcode, atomic_immediates}
use Rattle.wasm_instr_ops.specs.Gc.{gc_subopcode, gc_immediates}
use Rattle.wasm_instr_ops.specs.Misc.{misc_subopcode, misc_immediates}
use Rattle.wasm_instr_ops.specs.Numeric.{numeric_opcode}
use Rattle.wasm_instr_simd.specs.Simd.{simd_subopcode, simd_immediates}
use Rattle.wasm_instr.specs.Encoding.{EncodesOpcode, EncodesOperator}
use Rattle.wasm_instr.specs.Row.{prefix_of, opcode_of, immediates_of}
use Rattle.wasm_instr.specs.declared.operator.Operator.{Operator}
use Rattle.wasm_instr.specs.declared.operator.Operator.TheVariants as operator
use Rattle.wasm_instr_ops.specs.declared.atomic.AtomicOperator.{AtomicOperator}
use Rattle.wasm_instr_ops.specs.declared.atomic.AtomicOperator.TheVariants as atomic
use Rattle.wasm_instr_ops.specs.declared.gc.GcOperator.{GcOperator}
use Rattle.wasm_instr_ops.specs.declared.gc.GcOperator.TheVariants as gc
use Rattle.wasm_instr_ops.specs.declared.misc.MiscOperator.{MiscOperator}
use Rattle.wasm_instr_ops.specs.declared.misc.MiscOperator.TheVariants as misc
use Rattle.wasm_instr_ops.specs.declared.numeric.NumericOperator.{NumericOperator}
use Rattle.wasm_instr_ops.specs.declared.numeric.NumericOperator.TheVariants as numeric
use Rattle.wasm_instr_simd.specs.declared.simd.SimdOperator.{SimdOperator}
use Rattle.wasm_instr_simd.specs.declared.simd.SimdOperator.TheVariants as simd
use Rattle.wasm_encode_numbers.specs.Appended.{Appends}
use Rattle.wasm_encode_numbers.specs.Shortest.{unsigned_bytes}
use Rattle.wasm_encode_numbers.proofs.Written.{unsigned_written}
use Rattle.wasm_encode_immediates.specs.Reasons.{HoldList}
use Rattle.wasm_encode_operators.proofs.Operators.{byte_written, prefixed_written, operator_written}
use Rattle.wasm_view.specs.View.{opcode_number, view, view_of}
use Rattle.wasm_view.specs.declared.view.WasmOperator.{WasmOperator}
use Rattle.wasm_view.proofs.Immediates.{AreWhole, view_opcode}
use Rattle.wasm_encode_view.specs.Bytes.{opcode_bytes, immediate_bytes, view_bytes, list_shape}
use Rattle.wasm_encode_view.proofs.Appended.{adds_immediates}

-- ---- opcodes

-- One byte, or a prefix byte and a small subopcode.
abbrev IsSmall : Option ℕ → ℕ → Type 0
IsSmall None code = code < 256
IsSmall (Some prefix) code = (0 < prefix) × (prefix < 256) × (code < 65536)

numeric_small : (op : NumericOperator) → numeric_opcode op < 256
numeric_small numeric.I32Eqz = lit< tt
numeric_small _ = lit< tt

gc_small : (op : GcOperator) → gc_subopcode op < 65536
gc_small (gc.StructNew ty) = lit< tt
gc_small _ = lit< tt

misc_small : (op : MiscOperator) → misc_subopcode op < 65536
misc_small misc.I32TruncSatF32S = lit< tt
misc_small _ = lit< tt

simd_small : (op : SimdOperator) → simd_subopcode op < 65536
simd_small (simd.V128Load memarg) = lit< tt
simd_small _ = lit< tt

atomic_small : (op : AtomicOperator) → atomic_subopcode op < 65536
atomic_small (atomic.MemoryAtomicNotify memarg) = lit< tt
atomic_small _ = lit< tt

small : (op : Operator) → IsSmall (prefix_of op) (opcode_of op)
small (operator.Numeric op) = numeric_small op
small (operator.Gc op) = (lit< tt, lit< tt, gc_small op)
small (operator.Misc op) = (lit< tt, lit< tt, misc_small op)
small (operator.Simd op) = (lit< tt, lit< tt, simd_small op)
small (operator.Atomic op) = (lit< tt, lit< tt, atomic_small op)
small _ = lit< tt

one_byte : (code : ℕ) → code < 256 → opcode_bytes code ≡ code ∷ []
one_byte code lt =
    let low : code % 256 ≡ code = mod-eq_of_lt lt in
    ap (λ b. cond b (code % 256 ∷ []) (code / 65536 % 256 ∷ unsigned_bytes (code % 65536))) (lt-ltb code 65536 (omega (arith, lt))) ∙ ap (λ n. n ∷ []) low

two_parts : (prefix code : ℕ) → 0 < prefix → prefix < 256 → code < 65536 → opcode_bytes (65536 * prefix + code) ≡ prefix ∷ unsigned_bytes code
two_parts prefix code some byte lt =
    let n : ℕ = 65536 * prefix + code in
    let high : n / 65536 % 256 ≡ prefix = omega (arith, some, byte, lt) in
    let low : n % 65536 ≡ code = omega (arith, some, byte, lt) in
    ap (λ b. cond b (n % 256 ∷ []) (n / 65536 % 256 ∷ unsigned_bytes (n % 65536))) (le-ltb n 65536 (omega (arith, some))) ∙ ap (λ h. h ∷ unsigned_bytes (n % 65536)) high ∙ ap (λ l. prefix ∷ unsigned_bytes l) low

opcode_appended : (prefix : Option ℕ) (code : ℕ) → IsSmall prefix code → Appends (EncodesOpcode prefix) code [] (opcode_bytes (opcode_number prefix code))
opcode_appended None code lt = byte_written None code code [] (opcode_bytes code) refl refl (one_byte code lt)
opcode_appended (Some prefix) code (some, byte, lt) =
    prefixed_written (Some prefix) code prefix code [] (prefix ∷ []) (opcode_bytes (65536 * prefix + code)) refl refl refl
    (unsigned_written 32 code (prefix ∷ []) (opcode_bytes (65536 * prefix + code)) (omega arith) (omega (arith, lt)) (two_parts prefix code some byte lt))

-- ---- operators without a list

gc_whole : (op : GcOperator) → AreWhole (gc_immediates op)
gc_whole (gc.StructNew ty) = tt
gc_whole _ = tt

misc_whole : (op : MiscOperator) → AreWhole (misc_immediates op)
misc_whole misc.I32TruncSatF32S = tt
misc_whole _ = tt

simd_whole : (op : SimdOperator) → AreWhole (simd_immediates op)
simd_whole (simd.V128Load memarg) = tt
simd_whole _ = tt

atomic_whole : (op : AtomicOperator) → AreWhole (atomic_immediates op)
atomic_whole (atomic.MemoryAtomicNotify memarg) = tt
atomic_whole _ = tt

wide_fits : (n : ℤ) → (neg_ℤ (pos (2 ^ 63)) ≤ℤ n) → n <ℤ pos (2 ^ 63) → FitsSigned w64 n
wide_fits (pos n) ge lt = record { sfits = omega (arith, ints, lt) }
wide_fits (negsuc n) ge lt = record { sfits = omega (arith, ints, ge) }

whole : (f : WasmFeatures) (op : Operator) (text : List ℕ) → ¬ HoldList (immediates_of op) → EncodesImmediates f text (immediates_of op) → AreWhole (immediates_of op)
whole f (operator.BrTable t) text none p = absurd (none tt)
whole f (operator.TypedSelectMulti tys) text none p = absurd (none tt)
whole f (operator.TryTable t) text none p = absurd (none tt)
whole f (operator.Resume ty t) text none p = absurd (none tt)
whole f (operator.ResumeThrow ty tag t) text none p = absurd (none tt)
whole f (operator.ResumeThrowRef ty t) text none p = absurd (none tt)
whole f (operator.I32Const n) text none (first, more, e, p, rest) = let s = signed_fits first 32 n p in wide_fits n (omega (arith, ints, s.0)) (omega (arith, ints, s.1))
whole f (operator.I64Const n) text none (first, more, e, p, rest) = let s = signed_fits first 64 n p in wide_fits n s.0 s.1
whole f (operator.Gc op) text none p = gc_whole op
whole f (operator.Misc op) text none p = misc_whole op
whole f (operator.Simd op) text none p = simd_whole op
whole f (operator.Atomic op) text none p = atomic_whole op
whole f _ text none p = tt

pub view_appended : (f : WasmFeatures) (op : Operator) (at : ℕ) (text bytes : List ℕ) (v : WasmOperator) → bytes ≡ view_bytes v → v ≡ view_of (op, at) → ¬ HoldList (immediates_of op) →
    EncodesOperator f text op → Appends (EncodesOperator f) op [] bytes
view_appended f op at text bytes v is same none p =
    let number = opcode_number (prefix_of op) (opcode_of op) in
    let head : opcode_bytes (view_of (op, at)).opcode ≡ opcode_bytes number = ap opcode_bytes (view_opcode at number (immediates_of op)) in
    let all : bytes ≡ opcode_bytes number ++ immediate_bytes (view_of (op, at)) = is ∙ ap view_bytes same ∙ ap (λ h. h ++ immediate_bytes (view_of (op, at))) head in
    subst (λ new. Appends (EncodesOperator f) op [] new) (sym all)
    (operator_written f op [] (opcode_bytes number) (opcode_bytes number ++ immediate_bytes (view_of (op, at))) p.enabled
    (opcode_appended (prefix_of op) (opcode_of op) (small op))
    (adds_immediates f at number (immediates_of op) p.after (whole f op p.after none p.immediates) p.immediates (opcode_bytes number)))

-- ---- shapes with a list

gc_list : (op : GcOperator) (at number : ℕ) → list_shape (view at number (gc_immediates op)).shape ≡ true → HoldList (gc_immediates op)
gc_list (gc.StructNew ty) at number e = absurd (cc e)
gc_list _ at number e = absurd (cc e)

misc_list : (op : MiscOperator) (at number : ℕ) → list_shape (view at number (misc_immediates op)).shape ≡ true → HoldList (misc_immediates op)
misc_list misc.I32TruncSatF32S at number e = absurd (cc e)
misc_list _ at number e = absurd (cc e)

simd_list : (op : SimdOperator) (at number : ℕ) → list_shape (view at number (simd_immediates op)).shape ≡ true → HoldList (simd_immediates op)
simd_list (simd.V128Load memarg) at number e = absurd (cc e)
simd_list _ at number e = absurd (cc e)

atomic_list : (op : AtomicOperator) (at number : ℕ) → list_shape (view at number (atomic_immediates op)).shape ≡ true → HoldList (atomic_immediates op)
atomic_list (atomic.MemoryAtomicNotify memarg) at number e = absurd (cc e)
atomic_list _ at number e = absurd (cc e)

pub lists : (op : Operator) (at : ℕ) → list_shape (view_of (op, at)).shape ≡ true → HoldList (immediates_of op)
lists (operator.BrTable t) at e = tt
lists (operator.TypedSelectMulti tys) at e = tt
lists (operator.TryTable t) at e = tt
lists (operator.Resume ty t) at e = tt
lists (operator.ResumeThrow ty tag t) at e = tt
lists (operator.ResumeThrowRef ty t) at e = tt
lists (operator.Gc op) at e = gc_list op at _ e
lists (operator.Misc op) at e = misc_list op at _ e
lists (operator.Simd op) at e = simd_list op at _ e
lists (operator.Atomic op) at e = atomic_list op at _ e
lists _ at e = absurd (cc e)

gc_none : (op : GcOperator) → ¬ HoldList (gc_immediates op)
gc_none (gc.StructNew ty) h = h
gc_none _ h = h

misc_none : (op : MiscOperator) → ¬ HoldList (misc_immediates op)
misc_none misc.I32TruncSatF32S h = h
misc_none _ h = h

simd_none : (op : SimdOperator) → ¬ HoldList (simd_immediates op)
simd_none (simd.V128Load memarg) h = h
simd_none _ h = h

atomic_none : (op : AtomicOperator) → ¬ HoldList (atomic_immediates op)
atomic_none (atomic.MemoryAtomicNotify memarg) h = h
atomic_none _ h = h

pub listed : (op : Operator) (at : ℕ) → HoldList (immediates_of op) → list_shape (view_of (op, at)).shape ≡ true
listed (operator.BrTable t) at h = refl
listed (operator.TypedSelectMulti tys) at h = refl
listed (operator.TryTable t) at h = refl
listed (operator.Resume ty t) at h = refl
listed (operator.ResumeThrow ty tag t) at h = refl
listed (operator.ResumeThrowRef ty t) at h = refl
listed (operator.Gc op) at h = absurd (gc_none op h)
listed (operator.Misc op) at h = absurd (misc_none op h)
listed (operator.Simd op) at h = absurd (simd_none op h)
listed (operator.Atomic op) at h = absurd (atomic_none op h)
listed _ at h = absurd h
