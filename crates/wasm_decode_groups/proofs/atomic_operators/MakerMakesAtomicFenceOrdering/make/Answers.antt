-- Written by tools/lists.py from tools/operators.tsv.
use Rattle.std.proofs.Common.{[], Some, refl, subst, arith, ◌≡◌, ◌∷◌}
use Rattle.wasm_instr.specs.declared.operator.Operator.TheVariants as operator
use Rattle.wasm_instr_ops.specs.declared.atomic.AtomicOperator.TheVariants as atomic
use Rattle.wasm_imm.specs.Immediate.{fence_order}
use Rattle.wasm_decode_groups.specs.Arms.{IsRow}
use Rattle.wasm_decode_groups.proofs.Codes.{atomic_fence_codes}
use Rattle.wasm_decode_groups.proofs.atomic_operators.MakerMakesAtomicFenceOrdering.make.Goals as goal

pub returns : goal.returns
returns c =
    let h = atomic_fence_codes c.args._code c.requires.kinds in
    let same : 0x03 ≡ c.args._code = first_of (omega (arith, h), grind (arith, h)) in
    subst (λ k. IsRow (Some 0xfe) k (fence_order c.args.it.0 ∷ []) (operator.Atomic (atomic.AtomicFence (c.args.it.0)))) same (refl, refl, refl)
