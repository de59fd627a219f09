-- What is appended for an operator of a common form.
use Rattle.std.proofs.Common.{◌≡◌, ℕ, ◌+◌, inl, List, [], ◌∷◌, ◌++◌, Option, None, refl, sym, ap, subst, ◌∙◌, append_assoc, arith}
use Rattle.wasm_below.specs.declared.features.WasmFeatures.{WasmFeatures}
use Rattle.wasm_imm.specs.declared.memory_argument.MemArg.{MemArg}
use Rattle.wasm_imm.specs.declared.memory_argument.MemArgTarget.{MemArgTarget}
use Rattle.wasm_imm.specs.declared.memory_argument.MemArgTarget.TheVariants as target
use Rattle.wasm_imm.specs.declared.memory_argument.MemArgOrdering.{MemArgOrdering}
use Rattle.wasm_imm.specs.declared.memory_argument.MemArgKind.TheVariants as kind
use Rattle.wasm_imm.specs.Immediate.{Immediate, memory_argument, EncodesImmediates}
use Rattle.wasm_imm.specs.MemoryArgument.{EncodesMemArg}
use Rattle.wasm_instr.specs.declared.operator.Operator.{Operator}
use Rattle.wasm_instr.specs.Encoding.{EncodesOperator}
use Rattle.wasm_instr.specs.Row.{prefix_of, opcode_of}
use Rattle.wasm_encode_numbers.specs.Appended.{Appends}
use Rattle.wasm_encode_numbers.specs.Shortest.{unsigned_bytes}
use Rattle.wasm_encode_immediates.specs.MemoryBytes.{target_part, target_bytes, ordering_part, ordering_bytes, memory_argument_bytes, IsTargetWritable, IsOrderingWritable, IsWritable}
use Rattle.wasm_encode_immediates.proofs.MemoryArguments.{argument_written}
use Rattle.wasm_encode_immediates.proofs.Sequences.{one_appended}
use Rattle.wasm_encode_operators.specs.Forms.{IsCommon, IsPlain}
use Rattle.wasm_encode_operators.proofs.Operators.{byte_written, operator_written}

pub common_written : (op : Operator) (code : ℕ) (is : List Immediate) (old mid new : List ℕ) → IsCommon op code is → mid ≡ old ++ code ∷ [] →
    ((f : WasmFeatures) → Appends (EncodesImmediates f) is mid new) → (f : WasmFeatures) → Appends (EncodesOperator f) op old new
common_written op code is old mid new (p, c, i, on) m w f =
    operator_written f op old mid new (on f) (byte_written (prefix_of op) (opcode_of op) code old mid p c m)
    (subst (λ z. Appends (EncodesImmediates f) z mid new) (sym i) (w f))

-- ---- memory arguments

plain_parts : (align : ℕ) (o : Option MemArgOrdering) (t : MemArgTarget) (offset : List ℕ) → o ≡ None → t ≡ target.Memory 0 →
    (align + ordering_part o + target_part t) ∷ (target_bytes t ++ (ordering_bytes o ++ offset)) ≡ align ∷ offset
plain_parts align o t offset absent first =
    let Same : Option MemArgOrdering → MemArgTarget → Type 0 = λ o t. (align + ordering_part o + target_part t) ∷ (target_bytes t ++ (ordering_bytes o ++ offset)) ≡ align ∷ offset in
    let sum : align + 0 + 0 ≡ align = omega arith in
    subst (λ x. Same x t) (sym absent) (subst (λ x. Same None x) (sym first) (ap (λ z. z ∷ offset) sum))

plain_writable : (f : WasmFeatures) (natural : ℕ) (m : MemArg) → IsPlain natural m → IsWritable f kind.Plain natural m
plain_writable f natural m p =
    let small = p.offset in
    record {
      align = p.align;
      natural = p.max_align;
      target = subst (IsTargetWritable f) (sym p.target) (omega arith, inl refl);
      ordering = subst (IsOrderingWritable f kind.Plain) (sym p.ordering) tt;
      small = omega (arith, small);
      offset = inl p.offset;
    }

pub plain_written : (f : WasmFeatures) (natural : ℕ) (m : MemArg) (old mid new : List ℕ) → IsPlain natural m → mid ≡ old ++ m.align ∷ [] → new ≡ mid ++ unsigned_bytes m.offset →
    Appends (EncodesImmediates f) (memory_argument kind.Plain natural m ∷ []) old new
plain_written f natural m old mid new p a b =
    let rest = unsigned_bytes m.offset in
    let bytes : new ≡ old ++ memory_argument_bytes m =
    b ∙ ap (λ z. z ++ rest) a ∙ append_assoc old (m.align ∷ []) rest ∙ ap (λ z. old ++ z) (sym (plain_parts m.align m.ordering m.target rest p.ordering p.target)) in
    one_appended (EncodesMemArg f kind.Plain natural) f m (memory_argument kind.Plain natural m) old new (λ t q. q) (λ t q. q)
    (argument_written f kind.Plain natural m old new (plain_writable f natural m p) bytes)
