-- Written by tools/lists.py from tools/operators.tsv.
use Rattle.std.proofs.Common.{[], Some, refl, subst, arith, ◌≡◌, ◌∷◌}
use Rattle.wasm_instr.specs.declared.operator.Operator.TheVariants as operator
use Rattle.wasm_instr_ops.specs.declared.gc.GcOperator.TheVariants as gc
use Rattle.wasm_imm.specs.Immediate.{unsigned_32}
use Rattle.wasm_decode_groups.specs.Arms.{IsRow}
use Rattle.wasm_decode_groups.proofs.Codes.{gc_unsigned_unsigned_codes}
use Rattle.wasm_decode_groups.proofs.gc_operators.MakerMakesGcTuple2U32U32.make.Goals as goal

pub returns-in_default : goal.returns-in_default
returns-in_default c =
    let h = gc_unsigned_unsigned_codes c.args.code c.requires.kinds in
    let same : 0x13 ≡ c.args.code = first_of (omega (arith, h), grind (arith, h)) in
    subst (λ k. IsRow (Some 0xfb) k (unsigned_32 c.args.it.0 ∷ unsigned_32 c.args.it.1 ∷ []) (operator.Gc (gc.ArrayInitElem (c.args.it.0) (c.args.it.1)))) same (refl, refl, refl)
