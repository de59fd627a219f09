-- What a read of a constant expression says is what the grammar of its bytes asks for.
use Rattle.std.proofs.Common.{◌≡◌, ◌≢◌, ℕ, ◌≤◌, List, [], ◌++◌, drop, length, Result, Ok, Err, inl, inr, refl, sym, subst, ap, ◌∙◌, arith}
use Rattle.std.proofs.lemmas.List.{append-nil}
use Rattle.wasm_below.specs.declared.error.Error.{Error}
use Rattle.wasm_below.specs.declared.features.WasmFeatures.{WasmFeatures}
use Rattle.wasm_below.specs.declared.message.Message.{Message}
use Rattle.wasm_below.specs.declared.message.Message.TheVariants as message
use Rattle.wasm_below.specs.FromReader.{IsRefused, ReadsValue}
use Rattle.wasm_below.specs.Source.{Reader, reader_of, rest, offset_of, HasRead}
use Rattle.wasm_below.proofs.TakesLemmas.{same_rest}
use Rattle.wasm_grammars.specs.Blocks.{block}
use Rattle.wasm_grammars.specs.Reading.{Reads}
use Rattle.wasm_grammars.proofs.Steps.{none_here, value_fails}
use Rattle.wasm_operators.specs.Constant.{EncodesConstantReader}
use Rattle.wasm_operators.specs.ConstantFaults.{ConstantFault, ConstantMayAllocate}
use Rattle.wasm_operators.proofs.ConstantDetermined.{constant_prefix_code}
use Rattle.wasm_write_grammars.specs.Writing.{Writes, IsUnwritable}
use Rattle.wasm_encode_constants.specs.BytesLaws.{IsConstant, EncodesBytes, bytes_are_part}
use Rattle.wasm_encode_constants.specs.ConstantBytes.{constant_bytes, ConstantReason}

-- The rest of a reader of the bytes.
whole : (f : WasmFeatures) (text : List ℕ) (c : Reader) → EncodesConstantReader f text c → rest c ≡ text
whole f text c p = ap (λ n. drop n c.buffer) p.0.2 ∙ p.0.1

pub bytes_read : (c : Reader) {old new : Reader} {bytes : List ℕ} → HasRead (EncodesConstantReader old.features) c old new → bytes ≡ rest c → Reads (constant_bytes old.features) (Ok bytes) old new
bytes_read c {old} (text, p, t) is = (text, (is ∙ whole old.features text c p, (c, p)), t)

pub bytes_fail : {e : Error} {old new : Reader} → (new ≡ old) × IsRefused (EncodesConstantReader old.features) ConstantFault ConstantMayAllocate e old →
    Reads (constant_bytes old.features) (Err e) old new
bytes_fail {e} {old} {new} (same, h) =
    let refused : IsRefused (EncodesBytes old.features) ConstantFault ConstantMayAllocate e old =
    record { refuses = λ more follow text after bytes p. h.refuses more follow text after p.1.0 p.1.1; ahead = h.ahead; fault = h.fault; memory = h.memory } in
    (same, value_fails (EncodesBytes old.features) ConstantFault ConstantMayAllocate (bytes_are_part old.features) (offset_of old) e old new (omega arith) (same, refused))

left : (f : WasmFeatures) (bytes : List ℕ) (c new : Reader) → HasRead (EncodesConstantReader f) c (reader_of f 0 bytes) new → rest new ≢ [] →
    (IsConstant f bytes → ⊥) × ConstantReason f bytes message.UnexpectedData
left f bytes c new (text, p, t) some = (lacks, inr (refl, text, rest new, (c, p), t.parts, some))
  where
    lacks : IsConstant f bytes → ⊥
    lacks (r, q) =
        let o = constant_prefix_code f bytes text [] (rest new) r c q p (append-nil bytes ∙ t.parts) in
        some (same_rest text text (rest new) [] refl (sym t.parts ∙ o.0 ∙ sym (append-nil text)))

pub constant_left : (f : WasmFeatures) (bytes : List ℕ) (c : Reader) {old new : Reader} → old ≡ reader_of f 0 bytes → HasRead (EncodesConstantReader old.features) c old new → rest new ≢ [] →
    (IsConstant f bytes → ⊥) × ConstantReason f bytes message.UnexpectedData
constant_left f bytes c {old} {new} same h some = left f bytes c new (subst (λ r. HasRead (EncodesConstantReader r.features) c r new) same h) some

fails : (f : WasmFeatures) (bytes : List ℕ) (e : Error) → IsRefused (EncodesConstantReader f) ConstantFault ConstantMayAllocate e (reader_of f 0 bytes) →
    e.message ≢ message.OutOfMemory → (IsConstant f bytes → ⊥) × ConstantReason f bytes e.message
fails f bytes e h known =
    (λ (r, q). none_here (EncodesConstantReader f) e.message bytes known h.refuses bytes [] r q (sym (append-nil bytes)), inl (e.offset, h.fault known))

pub constant_fails : (f : WasmFeatures) (bytes : List ℕ) (e : Error) {old : Reader} → old ≡ reader_of f 0 bytes →
    IsRefused (EncodesConstantReader old.features) ConstantFault ConstantMayAllocate e old → {m : Message} → m ≡ e.message → m ≢ message.OutOfMemory →
    (IsConstant f bytes → ⊥) × ConstantReason f bytes m
constant_fails f bytes e same h {m} is known =
    let refused = subst (λ r. IsRefused (EncodesConstantReader r.features) ConstantFault ConstantMayAllocate e r) same h in
    subst (λ k. (IsConstant f bytes → ⊥) × ConstantReason f bytes k) (sym is) (fails f bytes e refused (subst (λ k. k ≢ message.OutOfMemory) is known))

same_length : (text other : List ℕ) → other ≡ text → length text ≤ length other
same_length text other e = let l = ap length e in omega (arith, l)

pub bytes_written : (f : WasmFeatures) {bytes x old new : List ℕ} → bytes ≡ x → IsConstant f bytes → Writes (block (length bytes)) bytes old new → Writes (constant_bytes f) x old new
bytes_written f {bytes} {x} {old} {new} same is w =
    subst (λ z. Writes (constant_bytes f) z old new) same (record {
      text = w.text;
      appended = w.appended;
      encodes = λ place. (sym (w.encodes place).0, subst (IsConstant f) (sym (w.encodes place).0) is);
      shortest = λ place other p. same_length w.text other (sym p.0 ∙ sym (w.encodes place).0);
    })

pub bytes_lack : (f : WasmFeatures) {bytes x : List ℕ} → bytes ≡ x → {m : Message} → (IsConstant f bytes → ⊥) × ConstantReason f bytes m →
    IsUnwritable (constant_bytes f) (ConstantReason f) x m
bytes_lack f {bytes} {x} same {m} (none, reason) =
    subst (λ z. IsUnwritable (constant_bytes f) (ConstantReason f) z m) same
    (record { none = λ place text p. none (subst (IsConstant f) (sym p.0) p.1); reason = reason })
