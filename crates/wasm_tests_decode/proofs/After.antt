use Rattle.std.proofs.Common.{◌≡◌, ℕ, suc, ◌+◌, [], ◌∷◌, length, Some, refl, sym, subst, ap, ◌∙◌, arith}
use Rattle.wasm_below.specs.Number.{EncodesUnsigned}
use Rattle.wasm_below.specs.Source.{Reader, at_position, Takes, HasRead, IsByte}
use Rattle.wasm_decode_opcodes.specs.Decoding.{IsAfterCode}

pub after_both : (old mid new : Reader) (start byte code : ℕ) → start ≡ old.position → HasRead IsByte byte old mid → HasRead (EncodesUnsigned 32) code mid new →
    IsAfterCode start (Some byte) code new
after_both old mid new start byte code same (text, is, first) (number, encodes, second) =
    let one : Takes old mid (byte ∷ []) = subst (Takes old mid) is.0 first in
    let both : Takes old new (byte ∷ number) = record {
      moved = second.moved ∙ ap (λ (r : Reader). at_position r (r.position + length number)) one.moved ∙ ap (at_position old) (omega arith);
      parts = one.parts ∙ ap (λ z. byte ∷ z) second.parts;
    } in
    let back : at_position new start ≡ old = ap (at_position new) same ∙ ap (λ (r : Reader). at_position r old.position) both.moved in
    let position : new.position ≡ old.position + suc (length number) = ap (λ (r : Reader). r.position) both.moved in
    record { begun = omega (arith, same, position); opcode = (byte ∷ number, (number, refl, encodes), subst (λ z. Takes z new (byte ∷ number)) (sym back) both) }
