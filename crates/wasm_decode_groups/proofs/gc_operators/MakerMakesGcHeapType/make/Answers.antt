-- Written by tools/lists.py from tools/operators.tsv.
use Rattle.std.proofs.Common.{[], Some, refl, subst, arith, ◌≡◌, ◌∷◌}
use Rattle.wasm_instr.specs.declared.operator.Operator.TheVariants as operator
use Rattle.wasm_instr_ops.specs.declared.gc.GcOperator.TheVariants as gc
use Rattle.wasm_imm.specs.Immediate.{heap_type}
use Rattle.wasm_decode_groups.specs.Arms.{IsRow}
use Rattle.wasm_decode_groups.proofs.Codes.{gc_heap_type_codes}
use Rattle.wasm_decode_groups.proofs.gc_operators.MakerMakesGcHeapType.make.Goals as goal

pub returns-in_default : goal.returns-in_default
returns-in_default c =
    let h = gc_heap_type_codes c.args.code c.requires.kinds in
    let same : 0x24 ≡ c.args.code = first_of (omega (arith, h), grind (arith, h)) in
    subst (λ k. IsRow (Some 0xfb) k (heap_type c.args.it ∷ []) (operator.Gc (gc.RefCastDescEqNullable (c.args.it)))) same (refl, refl, refl)
