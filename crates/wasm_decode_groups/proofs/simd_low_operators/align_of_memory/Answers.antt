-- Written by tools/lists.py from tools/operators.tsv.
use Rattle.std.proofs.Common.{refl, subst, Some, arith, ◌≡◌}
use Rattle.wasm_decode_opcodes.specs.Entries.{align_at}
use Rattle.wasm_decode_groups.proofs.Codes.{simd_low_memory_codes}
use Rattle.wasm_decode_groups.proofs.simd_low_operators.align_of_memory.Goals as goal

pub returns-in_default : goal.returns-in_default
returns-in_default c =
    let h = simd_low_memory_codes c.args.code c.requires in
    let same : 0x5c ≡ c.args.code = first_of (omega (arith, h), grind (arith, h)) in
    subst (λ k. 2 ≡ align_at (Some 0xfd) k) same refl
