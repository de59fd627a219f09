-- Written by tools/lists.py from tools/operators.tsv.
use Rattle.std.proofs.Common.{[], Some, refl, subst, arith, ◌≡◌, ◌∷◌}
use Rattle.wasm_instr.specs.declared.operator.Operator.TheVariants as operator
use Rattle.wasm_instr_ops.specs.declared.misc.MiscOperator.TheVariants as misc
use Rattle.wasm_imm.specs.Immediate.{unsigned_32}
use Rattle.wasm_decode_groups.specs.Arms.{IsRow}
use Rattle.wasm_decode_groups.proofs.Codes.{misc_unsigned_codes}
use Rattle.wasm_decode_groups.proofs.misc_operators.MakerMakesMiscU32.make.Goals as goal

pub returns-in_default : goal.returns-in_default
returns-in_default c =
    let h = misc_unsigned_codes c.args.code c.requires.kinds in
    let same : 0x12 ≡ c.args.code = first_of (omega (arith, h), grind (arith, h)) in
    subst (λ k. IsRow (Some 0xfc) k (unsigned_32 c.args.it ∷ []) (operator.Misc (misc.MemoryDiscard (c.args.it)))) same (refl, refl, refl)
