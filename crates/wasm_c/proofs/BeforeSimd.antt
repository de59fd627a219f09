-- A read that fails before a SIMD operator, as a C struct.
use Rattle.std.proofs.Common.{◌≡◌, ℕ, ◌+◌, List, Result, Ok, Err, sym, subst, ◌∙◌, inl, inr}
use Rattle.wasm_view.specs.declared.view.WasmOperator.{WasmOperator}
use Rattle.wasm_c.specs.declared.reader.WasmReader.{WasmReader}
use Rattle.wasm_c.specs.declared.refusal.WasmRefusal.{WasmRefusal}
use Rattle.wasm_c.specs.Refused.{no_refusal}
use Rattle.wasm_c.specs.Steps.{IsBeforeSimd, RefusesSimd, ReadsPlain, ReturnsNextPlain}

abbrev some_view : WasmOperator → Result WasmOperator WasmRefusal
some_view view = Ok view

abbrev no_view : WasmRefusal → Result WasmOperator WasmRefusal
no_view r = Err r

same_refusal : (r other : WasmRefusal) → no_view r ≡ no_view other → r ≡ other
same_refusal r other e = cc e

-- An operator is read.
pub plain_read : (bytes : List ℕ) (old new : WasmReader) (frames_old frames_new : List ℕ) (view out_old out_new : WasmOperator) (r : WasmRefusal) →
    (IsBeforeSimd bytes old frames_old → RefusesSimd (some_view view) bytes old new frames_old frames_new) →
    ((IsBeforeSimd bytes old frames_old → ⊥) → ReadsPlain (Ok view) bytes old new frames_old frames_new) → out_new ≡ view →
    r ≡ no_refusal (new.offset + new.position) → ReturnsNextPlain r bytes old new frames_old frames_new out_old out_new
plain_read bytes old new frames_old frames_new view out_old out_new r simd other same is = record {
  simd = λ before. absurd (cc ((simd before).0));
  other = λ none. inl (is, subst (λ v. ReadsPlain (Ok v) bytes old new frames_old frames_new) (sym same) (other none));
}

-- None is read.
pub plain_refused : (bytes : List ℕ) (old new : WasmReader) (frames_old frames_new : List ℕ) (out_old out_new : WasmOperator) (refused r : WasmRefusal) →
    (IsBeforeSimd bytes old frames_old → RefusesSimd (no_view refused) bytes old new frames_old frames_new) →
    ((IsBeforeSimd bytes old frames_old → ⊥) → ReadsPlain (Err refused) bytes old new frames_old frames_new) → out_new ≡ out_old → r ≡ refused →
    ReturnsNextPlain r bytes old new frames_old frames_new out_old out_new
plain_refused bytes old new frames_old frames_new out_old out_new refused r simd other kept is = record {
  simd = λ before.
      let s = simd before in
      (is ∙ same_refusal refused _ s.0, s.1, s.2, kept);
  other = λ none. inr (subst (λ e. ReadsPlain (Err e) bytes old new frames_old frames_new) (sym is) (other none), kept);
}
