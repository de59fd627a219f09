use Rattle.std.proofs.Common.{◌≡◌, ℕ, true, false, cond, eqb, ltb, List, [], ◌∷◌, ◌++◌, Option, Some, None, map, refl, sym, ap, ◌∙◌, append_assoc}
use Rattle.wasm_below.specs.declared.features.WasmFeatures.{WasmFeatures}
use Rattle.wasm_below.proofs.PrefixCode.{unsigned_prefix_code}
use Rattle.wasm_below.proofs.TakesLemmas.{same_rest}
use Rattle.wasm_imm.specs.Immediate.{Immediate, Kind, kind_of}
use Rattle.wasm_imm.proofs.ImmediatePrefixCodes.{immediates_prefix_code}
use Rattle.wasm_instr_ops.specs.Numeric.{numeric_opcode, numeric_immediates}
use Rattle.wasm_instr_ops.proofs.NumericByOpcode.{numeric_at, numeric_by_opcode, numeric_kinds, numeric_range, numeric_short, is_numeric}
use Rattle.wasm_instr_ops.proofs.GcByOpcode.{gc_at, gc_by_opcode, gc_kinds}
use Rattle.wasm_instr_ops.proofs.MiscByOpcode.{misc_at, misc_by_opcode, misc_kinds}
use Rattle.wasm_instr_ops.proofs.AtomicByOpcode.{atomic_at, atomic_by_opcode, atomic_kinds}
use Rattle.wasm_instr_simd.proofs.SimdByOpcode.{simd_at, simd_by_opcode, simd_kinds}
use Rattle.wasm_instr.specs.declared.operator.Operator.{Operator}
use Rattle.wasm_instr.specs.declared.operator.Operator.TheVariants as operator
use Rattle.wasm_instr.specs.Row.{prefix_of, opcode_of, immediates_of}
use Rattle.wasm_instr.specs.Encoding.{EncodesOpcode, EncodesOperator}
use Rattle.wasm_instr.proofs.ByOpcode.{own_at}

abbrev pub operator_at : Option ℕ → ℕ → List Immediate → Operator
operator_at None code is = cond (is_numeric code) (operator.Numeric (numeric_at code is)) (own_at code is)
operator_at (Some prefix) code is =
    cond (eqb prefix 0xfb) (operator.Gc (gc_at code is))
    (cond (eqb prefix 0xfc) (operator.Misc (misc_at code is))
    (cond (eqb prefix 0xfd) (operator.Simd (simd_at code is))
    (operator.Atomic (atomic_at code is))))

again : (op : Operator) → operator_at (prefix_of op) (opcode_of op) (immediates_of op) ≡ op
again (operator.Numeric op) = ap (λ b. cond b (operator.Numeric (numeric_at (numeric_opcode op) (numeric_immediates op)))
    (own_at (numeric_opcode op) (numeric_immediates op))) (numeric_range op) ∙ ap operator.Numeric (numeric_by_opcode op)
again (operator.Gc op) = ap operator.Gc (gc_by_opcode op)
again (operator.Misc op) = ap operator.Misc (misc_by_opcode op)
again (operator.Simd op) = ap operator.Simd (simd_by_opcode op)
again (operator.Atomic op) = ap operator.Atomic (atomic_by_opcode op)
again op = refl

abbrev kinds_at : Option ℕ → ℕ → List Kind
kinds_at prefix code = map kind_of (immediates_of (operator_at prefix code []))

kinds_by_opcode : (op : Operator) → map kind_of (immediates_of op) ≡ kinds_at (prefix_of op) (opcode_of op)
kinds_by_opcode (operator.Numeric op) = numeric_kinds op ∙
    sym (ap (λ b. map kind_of (immediates_of (cond b (operator.Numeric (numeric_at (numeric_opcode op) [])) (own_at (numeric_opcode op) []))))
    (numeric_range op))
kinds_by_opcode (operator.Gc op) = gc_kinds op
kinds_by_opcode (operator.Misc op) = misc_kinds op
kinds_by_opcode (operator.Simd op) = simd_kinds op
kinds_by_opcode (operator.Atomic op) = atomic_kinds op
kinds_by_opcode op = refl

abbrev IsInRange : Option ℕ → ℕ → Type 0
IsInRange None code = ltb code 0xfb ≡ true
IsInRange (Some prefix) code = ltb prefix 0xfb ≡ false

in_range : (op : Operator) → IsInRange (prefix_of op) (opcode_of op)
in_range (operator.Numeric op) = numeric_short op
in_range op = refl

opcode_prefix_code : (p q : Option ℕ) (c d : ℕ) (a b x y : List ℕ) → IsInRange p c → IsInRange q d → EncodesOpcode p a c → EncodesOpcode q b d → a ++ x ≡ b ++ y →
    (p ≡ q) × (c ≡ d) × (a ≡ b)
opcode_prefix_code None None c d a b x y s t h k e =
    let whole : c ∷ x ≡ d ∷ y = ap (λ z. z ++ x) (sym h) ∙ e ∙ ap (λ z. z ++ y) k in
    let same : c ≡ d = cc whole in
    (refl, same, h ∙ ap (λ z. z ∷ []) same ∙ sym k)
opcode_prefix_code None (Some q) c d a b x y s t h (number, k, u) e =
    let whole : c ∷ x ≡ q ∷ (number ++ y) = ap (λ z. z ++ x) (sym h) ∙ e ∙ ap (λ z. z ++ y) k in
    let same : c ≡ q = cc whole in
    absurd (cc (sym s ∙ ap (λ z. ltb z 0xfb) same ∙ t))
opcode_prefix_code (Some p) None c d a b x y s t (number, h, u) k e =
    let whole : p ∷ (number ++ x) ≡ d ∷ y = ap (λ z. z ++ x) (sym h) ∙ e ∙ ap (λ z. z ++ y) k in
    let same : p ≡ d = cc whole in
    absurd (cc (sym t ∙ ap (λ z. ltb z 0xfb) (sym same) ∙ s))
opcode_prefix_code (Some p) (Some q) c d a b x y s t (number, h, u) (other, k, v) e =
    let whole : p ∷ (number ++ x) ≡ q ∷ (other ++ y) = ap (λ z. z ++ x) (sym h) ∙ e ∙ ap (λ z. z ++ y) k in
    let same : p ≡ q = cc whole in
    let n = unsigned_prefix_code number other 32 x y c d u v (cc whole) in
    (ap Some same, n.1, h ∙ cc (same, n.0) ∙ sym k)

pub operator_prefix_code : (f : WasmFeatures) (op po : Operator) (a b x y : List ℕ) → EncodesOperator f a op → EncodesOperator f b po → a ++ x ≡ b ++ y →
    (op ≡ po) × (a ≡ b)
operator_prefix_code f op po a b x y p q e =
    let whole : p.head ++ (p.after ++ x) ≡ q.head ++ (q.after ++ y) = sym (append_assoc p.head p.after x) ∙ ap (λ z. z ++ x) (sym p.parts) ∙ e ∙
    ap (λ z. z ++ y) q.parts ∙ append_assoc q.head q.after y in
    let h = opcode_prefix_code (prefix_of op) (prefix_of po) (opcode_of op) (opcode_of po) p.head q.head (p.after ++ x) (q.after ++ y) (in_range op) (in_range po)
    p.code q.code whole in
    let kinds : map kind_of (immediates_of op) ≡ map kind_of (immediates_of po) = kinds_by_opcode op ∙ ap (λ z. kinds_at z (opcode_of op)) h.0 ∙
    ap (kinds_at (prefix_of po)) h.1 ∙ sym (kinds_by_opcode po) in
    let is = immediates_prefix_code f (immediates_of op) (immediates_of po) p.after q.after x y kinds p.immediates q.immediates
    (same_rest p.head q.head (p.after ++ x) (q.after ++ y) h.2 whole) in
    let same : op ≡ po = sym (again op) ∙ ap (λ z. operator_at z (opcode_of op) (immediates_of op)) h.0 ∙
    ap (λ z. operator_at (prefix_of po) z (immediates_of op)) h.1 ∙ ap (operator_at (prefix_of po) (opcode_of po)) is.0 ∙ again po in
    (same, p.parts ∙ cc (h.2, is.1) ∙ sym q.parts)
