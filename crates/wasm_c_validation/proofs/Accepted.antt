-- A module without an error is accepted: no error has the number 0.
use Rattle.std.proofs.Common.{◌≡◌, ◌∙◌, ℕ, ap, arith, inl, inr, sym}
use Rattle.wasm_below.specs.Refusal.{number_of}
use Rattle.wasm_below.specs.Source.{Reader}
use Rattle.wasm_below.specs.declared.message.Message.{Message}
use Rattle.wasm_below.specs.declared.message.Message.TheVariants as message
use Rattle.wasm_c.specs.declared.refusal.WasmRefusal.{WasmRefusal}
use Rattle.wasm_validation.specs.Valid.{IsValidModule}
use Rattle.wasm_validation_texts.specs.declared.kind.FaultKind.{FaultKind}
use Rattle.wasm_validation_texts.specs.declared.kind.FaultKind.TheVariants as kind
use Rattle.wasm_validation_texts.specs.Kinds.{kind_of}
use Rattle.wasm_c_validation.specs.Verdicts.{refusal_of_kind, ReturnsVerdict}

numbered : (m : Message) → number_of m ≡ 0 → ⊥
numbered message.EndOfData zero = omega (arith, zero)
numbered _ zero = omega (arith, zero)

kind_numbered : (k : FaultKind) → (refusal_of_kind k).number ≡ 0 → ⊥
kind_numbered kind.Memory zero = omega (arith, zero)
kind_numbered (kind.Malformed e) zero = numbered e.message zero
kind_numbered (kind.Invalid offset) zero = omega (arith, zero)

pub accepted : (r : WasmRefusal) (bytes : Reader) (function : ℕ) → ReturnsVerdict r bytes function → r.number ≡ 0 → IsValidModule bytes
accepted r bytes function (inl (none, no_function, typed)) zero = typed
accepted r bytes function (inr (f, first, is, function_is)) zero =
    absurd (kind_numbered (kind_of f) (sym (ap (λ (refusal : WasmRefusal). refusal.number) is) ∙ zero))
