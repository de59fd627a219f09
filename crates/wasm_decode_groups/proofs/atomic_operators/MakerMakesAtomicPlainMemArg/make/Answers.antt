-- Written by tools/lists.py from tools/operators.tsv.
use Rattle.std.proofs.Common.{[], Some, refl, subst, arith, ◌≡◌, ◌∷◌}
use Rattle.wasm_imm.specs.declared.memory_argument.MemArgKind.TheVariants as kind
use Rattle.wasm_instr.specs.declared.operator.Operator.TheVariants as operator
use Rattle.wasm_instr_ops.specs.declared.atomic.AtomicOperator.TheVariants as atomic
use Rattle.wasm_imm.specs.Immediate.{memory_argument}
use Rattle.wasm_decode_opcodes.specs.Entries.{align_at}
use Rattle.wasm_decode_groups.specs.Arms.{IsRow}
use Rattle.wasm_decode_groups.proofs.Codes.{atomic_memory_codes}
use Rattle.wasm_decode_groups.proofs.atomic_operators.MakerMakesAtomicPlainMemArg.make.Goals as goal

pub returns-in_default : goal.returns-in_default
returns-in_default c =
    let h = atomic_memory_codes c.args.code c.requires.kinds in
    let same : 0x02 ≡ c.args.code = first_of (omega (arith, h), grind (arith, h)) in
    subst (λ k. IsRow (Some 0xfe) k (memory_argument kind.Plain (align_at (Some 0xfe) k) c.args.it.0 ∷ []) (operator.Atomic (atomic.MemoryAtomicWait64 (c.args.it.0)))) same (refl, refl, refl)
