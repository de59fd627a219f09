-- From opcode and immediates to the operator.
use Rattle.std.proofs.Common.{◌≡◌, ◌≢◌, ℕ, inl, inr, List, [], ◌∷◌, ◌++◌, length, take, Option, Some, None, refl, sym, ap, subst, ◌∙◌, append_assoc, arith, length-append}
use Rattle.std.proofs.lemmas.List.{take_at}
use Rattle.wasm_below.specs.declared.features.WasmFeatures.{WasmFeatures}
use Rattle.wasm_below.specs.Features.{legacy_exceptions}
use Rattle.wasm_below.specs.Number.{EncodesUnsigned}
use Rattle.wasm_imm.specs.Immediate.{EncodesImmediates}
use Rattle.wasm_instr.specs.declared.operator.Operator.{Operator}
use Rattle.wasm_instr.specs.Encoding.{EncodesOpcode, EncodesOperator, IsEnabled}
use Rattle.wasm_instr.specs.Row.{prefix_of, opcode_of, immediates_of}
use Rattle.wasm_encode_numbers.specs.Appended.{Appends}
use Rattle.wasm_encode_immediates.specs.declared.unwritable.Unwritable.{Unwritable}
use Rattle.wasm_encode_immediates.specs.declared.unwritable.Unwritable.TheVariants as why
use Rattle.wasm_encode_immediates.specs.Reasons.{HaveReason}
use Rattle.wasm_encode_immediates.specs.Written.{FailsToWrite}
use Rattle.wasm_encode_operators.specs.Encoding.{IsUnwritable}

pub byte_written : (prefix : Option ℕ) (code byte : ℕ) (old new : List ℕ) → prefix ≡ None → code ≡ byte → new ≡ old ++ byte ∷ [] → Appends (EncodesOpcode prefix) code old new
byte_written prefix code byte old new p c a =
    subst (λ z. Appends (EncodesOpcode z) code old new) (sym p)
    (record {
      text = byte ∷ [];
      appended = a;
      encodes = ap (λ z. z ∷ []) (sym c);
      shortest = λ other q. let l = ap length q in omega (arith, l);
    })

pub prefixed_written : (prefix : Option ℕ) (code byte number : ℕ) (old mid new : List ℕ) → prefix ≡ Some byte → code ≡ number → mid ≡ old ++ byte ∷ [] →
    Appends (EncodesUnsigned 32) number mid new → Appends (EncodesOpcode prefix) code old new
prefixed_written prefix code byte number old mid new p c m a =
    subst (λ z. Appends (EncodesOpcode z) code old new) (sym p)
    (subst (λ z. Appends (EncodesOpcode (Some byte)) z old new) (sym c)
    (record {
      text = byte ∷ a.text;
      appended = a.appended ∙ ap (λ z. z ++ a.text) m ∙ append_assoc old (byte ∷ []) a.text;
      encodes = (a.text, refl, a.encodes);
      shortest = λ other (rest, e, q).
          let s = a.shortest rest q in
          let l = ap length e in
          omega (arith, s, l);
    }))

pub operator_written : (f : WasmFeatures) (op : Operator) (old mid new : List ℕ) → IsEnabled f op → Appends (EncodesOpcode (prefix_of op)) (opcode_of op) old mid →
    Appends (EncodesImmediates f) (immediates_of op) mid new → Appends (EncodesOperator f) op old new
operator_written f op old mid new on a b =
    record {
      text = a.text ++ b.text;
      appended = b.appended ∙ ap (λ z. z ++ b.text) a.appended ∙ append_assoc old a.text b.text;
      encodes = record { head = a.text; after = b.text; parts = refl; code = a.encodes; immediates = b.encodes; enabled = on };
      shortest = λ other p.
          let x = a.shortest p.head p.code in
          let y = b.shortest p.after p.immediates in
          let l = length-append a.text b.text in
          let m = ap length p.parts ∙ length-append p.head p.after in
          omega (arith, x, y, l, m);
    }

pub operator_fails : (f : WasmFeatures) (op : Operator) (e : Unwritable) (mid new : List ℕ) → FailsToWrite (EncodesImmediates f) (HaveReason f) (immediates_of op) e mid new →
    e ≢ why.OutOfMemory → IsUnwritable f op e
operator_fails f op e mid new r some = record { none = λ text p. r.none some p.after p.immediates; reason = inr r.reason }

pub not_enabled : (f : WasmFeatures) (op : Operator) → ¬ IsEnabled f op → IsUnwritable f op (why.NeedsFeature legacy_exceptions)
not_enabled f op off = record { none = λ text p. off p.enabled; reason = inl (refl, off) }

-- What was appended after the first elements is cut off.
pub cut_off : (old mid new a b : List ℕ) (n : ℕ) → length old ≡ n → mid ≡ old ++ a → new ≡ mid ++ b → take n new ≡ old
cut_off old mid new a b n l first second =
    ap (λ z. take n z) (second ∙ ap (λ z. z ++ b) first ∙ append_assoc old a b) ∙ take_at old (a ++ b) n l
