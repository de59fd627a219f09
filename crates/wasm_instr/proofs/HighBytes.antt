-- Written by tools/lists.py from tools/operators.tsv.
-- The bytes from 0x20 on keep the frames.
use Rattle.std.proofs.Common.{◌≡◌, ℕ, ◌<◌, ◌≤◌, cond, eqb, refl, ap, ◌∙◌, arith}
use Rattle.std.proofs.lemmas.Bool.{ne_eqb}
use Rattle.wasm_grammar.specs.declared.frame_change.FrameChange.{FrameChange}
use Rattle.wasm_grammar.specs.declared.frame_change.FrameChange.TheVariants as change
use Rattle.wasm_instr.specs.Roles.{change_at}

passed : (byte low : ℕ) (c rest : FrameChange) → low < 0x20 → 0x20 ≤ byte → rest ≡ change.Stays → cond (eqb byte low) c rest ≡ change.Stays
passed byte low c rest below from e = ap (λ b. cond b c rest) (ne_eqb byte low (λ same. omega (arith, same, below, from))) ∙ e

pub stays_from_20 : (byte : ℕ) → 0x20 ≤ byte → change_at byte ≡ change.Stays
stays_from_20 byte from =
    passed byte 0x02 _ _ (omega arith) from (
    passed byte 0x03 _ _ (omega arith) from (
    passed byte 0x04 _ _ (omega arith) from (
    passed byte 0x05 _ _ (omega arith) from (
    passed byte 0x06 _ _ (omega arith) from (
    passed byte 0x07 _ _ (omega arith) from (
    passed byte 0x0b _ _ (omega arith) from (
    passed byte 0x18 _ _ (omega arith) from (
    passed byte 0x19 _ _ (omega arith) from (
    passed byte 0x1f _ _ (omega arith) from (
    refl))))))))))
