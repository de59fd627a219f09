-- Written by tools/lists.py from tools/operators.tsv.
use Rattle.std.proofs.Common.{refl, subst, Some, arith, ◌≡◌}
use Rattle.wasm_decode_opcodes.specs.Entries.{align_at}
use Rattle.wasm_decode_groups.proofs.Codes.{atomic_memory_codes}
use Rattle.wasm_decode_groups.proofs.atomic_operators.align_of_memory.Goals as goal

pub returns-in_default : goal.returns-in_default
returns-in_default c =
    let h = atomic_memory_codes c.args.code c.requires in
    let same : 0x02 ≡ c.args.code = first_of (omega (arith, h), grind (arith, h)) in
    subst (λ k. 3 ≡ align_at (Some 0xfe) k) same refl
